use Rattle.store_write.proofs.Vocabulary.{take, without_auths, EditsHolder}
use Rattle.store_write.proofs.InTurn.{SoFar}
use Rattle.store_write.proofs.auth.take_auths.Given as goal

abbrev pub invariant-loop-number : goal.invariant-loop-number
invariant-loop-number g l = SoFar g.S.Store (EditsHolder l.holder (without_auths (take l.number-index l.numbers))) l.fn.tx l.tx
