use Rattle.store_read.proofs.Vocabulary.{arith}
use Rattle.store_read.proofs.Loading.{one_run_more}
use Rattle.store_read.proofs.load.holdings_of.Goals as goal

pub loop-span-preserved : goal.loop-span-preserved
loop-span-preserved c = one_run_more c.args.spans.now c.loop-span.span-index c.span-item.result c.loop-span.holdings c.add_span.new.self (omega arith) c.span-item.is c.loop-span.invariant c.in_ok-add_span.ensures.ok
