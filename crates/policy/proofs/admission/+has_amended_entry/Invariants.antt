use Rattle.policy.proofs.Vocabulary.{length}
use Rattle.policy.proofs.admission.+has_amended_entry.Given as goal

abbrev pub decreases-has_amended_entry : goal.decreases-has_amended_entry
decreases-has_amended_entry l = length l.entries.now
