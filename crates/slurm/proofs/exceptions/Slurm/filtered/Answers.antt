use Rattle.slurm.proofs.Vocabulary.{ap, Exceptions}
use Rattle.slurm.proofs.FilterLemmas.{some_filter}
use Rattle.slurm.proofs.exceptions.Slurm.filtered.Goals as goal

pub returns-clause-some : goal.returns-clause-some
returns-clause-some c =
    let same = ap (λ (file : Exceptions). file.filters) c.self.view_is in
    rw (c.some_matches.ensures, c.as_slice.ensures.value, same) (some_filter c.args.self.now.filters c.args.vrp.now)
