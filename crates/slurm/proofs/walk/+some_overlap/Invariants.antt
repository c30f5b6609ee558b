use Rattle.slurm.proofs.Vocabulary.{length}
use Rattle.slurm.proofs.walk.+some_overlap.Given as goal

abbrev pub decreases-some_overlap : goal.decreases-some_overlap
decreases-some_overlap l = length l.files.now
