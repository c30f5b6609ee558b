use Rattle.store_write.proofs.Vocabulary.{take, entry_part, PutsRows}
use Rattle.store_write.proofs.AuthSteps.{rows_of_entries}
use Rattle.store_write.proofs.InTurn.{SoFar}
use Rattle.store_write.proofs.auth.put_entries.Given as goal

abbrev pub invariant-loop-entry : goal.invariant-loop-entry
invariant-loop-entry g l = SoFar g.S.Store (PutsRows entry_part.tree (rows_of_entries l.holder l.claim (take l.entry-index l.entries))) l.fn.tx l.tx
