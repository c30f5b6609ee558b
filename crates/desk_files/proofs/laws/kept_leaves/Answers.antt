use Rattle.desk_files.proofs.DeskFileLemmas.{kept_leaves_lem}
use Rattle.desk_files.proofs.laws.kept_leaves.Goals as goal

pub returns : goal.returns
returns g c = kept_leaves_lem g.D.Disk
