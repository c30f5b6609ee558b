use Rattle.addr.proofs.Vocabulary.{take, drop}
use Rattle.addr.proofs.SpanSteps.{Adding}
use Rattle.addr.proofs.holdings.with_span.Given as goal

abbrev pub invariant-loop-span : goal.invariant-loop-span
invariant-loop-span l = Adding (take l.span-index l.spans) (drop l.span-index l.spans) l.fn.added l.kept.items l.pending
