use Rattle.addr.proofs.Vocabulary.{take, drop}
use Rattle.addr.proofs.SpanSteps.{Cutting}
use Rattle.addr.proofs.holdings.without_span.Given as goal

abbrev pub invariant-loop-span : goal.invariant-loop-span
invariant-loop-span l = Cutting (take l.span-index l.spans) (drop l.span-index l.spans) l.gone l.kept.items
