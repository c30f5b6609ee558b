use Rattle.desk.proofs.ResumedLemmas as resumed
use Rattle.desk.proofs.laws.pending_fits.Goals as goal

pub returns : goal.returns
returns c = resumed.pending_fits c.growth_fits.ensures
