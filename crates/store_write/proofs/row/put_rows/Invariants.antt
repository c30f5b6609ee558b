use Rattle.store_write.proofs.Vocabulary.{take, EditsHolder}
use Rattle.store_write.proofs.InTurn.{SoFar}
use Rattle.store_write.proofs.row.put_rows.Given as goal

abbrev pub invariant-loop-row : goal.invariant-loop-row
invariant-loop-row g l = SoFar g.S.Store (EditsHolder l.holder (g.T.HolderRow.added (take l.row-index l.rows))) l.fn.tx l.tx
