use Rattle.registry.proofs.Vocabulary.{length}
use Rattle.registry.proofs.values.+entries_fit.Given as goal

abbrev pub decreases-entries_fit : goal.decreases-entries_fit
decreases-entries_fit l = length l.entries.now
