use Rattle.addr.proofs.SpanSteps.{cutting_first, cutting_step, cutting_end}
use Rattle.addr.proofs.holdings.without_span.Goals as goal

pub loop-span-init : goal.loop-span-init
loop-span-init c = rw c.in_ok-kept.ensures.items (cutting_first c.args.spans.now c.args.gone c.requires)

pub loop-span-preserved : goal.loop-span-preserved
loop-span-preserved c =
    let pushed = c.in_ok-push_parts.ensures in
    cutting_step c.args.spans.now c.loop-span.span-index c.span-item.result c.args.gone c.loop-span.kept.items pushed.0 c.push_parts.new.kept.items c.loop-span-test.true c.span-item.is pushed.2 pushed.1 c.loop-span.invariant

pub returns-clause-maximal : goal.returns-clause-maximal
returns-clause-maximal c = c.loop-span.invariant.maximal

pub returns-clause-same : goal.returns-clause-same
returns-clause-same c = cutting_end c.args.spans.now c.args.gone c.loop-span.kept.items c.loop-span.span-index c.loop-span-test.false c.loop-span.invariant
