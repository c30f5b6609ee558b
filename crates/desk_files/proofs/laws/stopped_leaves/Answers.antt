use Rattle.desk_files.proofs.DeskFileLemmas.{stopped_leaves_lem}
use Rattle.desk_files.proofs.laws.stopped_leaves.Goals as goal

pub returns : goal.returns
returns g c = stopped_leaves_lem g.D.Disk
