use Rattle.registry.proofs.Vocabulary.{length}
use Rattle.registry.proofs.values.+names_fit.Given as goal

abbrev pub decreases-names_fit : goal.decreases-names_fit
decreases-names_fit l = length l.names.now
