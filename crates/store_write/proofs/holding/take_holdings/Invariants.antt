use Rattle.store_write.proofs.Vocabulary.{take, without_holdings, EditsHolder}
use Rattle.store_write.proofs.InTurn.{SoFar}
use Rattle.store_write.proofs.holding.take_holdings.Given as goal

abbrev pub invariant-loop-span : goal.invariant-loop-span
invariant-loop-span g l = SoFar g.S.Store (EditsHolder l.holder (without_holdings (take l.span-index l.spans))) l.fn.tx l.tx
