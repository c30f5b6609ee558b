use Rattle.store_read.proofs.Vocabulary.{take, HaveSame}
use Rattle.store_read.proofs.load.holdings_of.Given as goal

abbrev pub invariant-loop-span : goal.invariant-loop-span
invariant-loop-span l = HaveSame (take l.span-index l.spans) l.holdings
