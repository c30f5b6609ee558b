use Rattle.registry.proofs.Vocabulary.{length}
use Rattle.registry.proofs.authorization.+maxes_fit.Given as goal

abbrev pub decreases-maxes_fit : goal.decreases-maxes_fit
decreases-maxes_fit l = length l.maxes.now
