use Rattle.store_transactions.proofs.Vocabulary.{length}
use Rattle.store_transactions.proofs.FilesIn.{Walked}
use Rattle.store_transactions.proofs.files.files_in.Given as goal

abbrev pub invariant-loop-rest : goal.invariant-loop-rest
invariant-loop-rest l = Walked l.exceptions l.rest l.files.items

abbrev pub decreases-loop-rest : goal.decreases-loop-rest
decreases-loop-rest l = length l.rest
