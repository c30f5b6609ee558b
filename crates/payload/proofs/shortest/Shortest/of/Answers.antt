use Rattle.payload.proofs.Lengths.{no_shorter-more, no_shorter-all}
use Rattle.payload.proofs.shortest.Shortest.of.Goals as goal

pub loop-vrp-preserved : goal.loop-vrp-preserved
loop-vrp-preserved c =
    no_shorter-more _ _ _ _ c.vrp-item.result c.loop-vrp.invariant c.loop-vrp-test.true c.vrp-item.is c.with-shortest.ensures.here c.with-shortest.ensures.others

pub returns : goal.returns
returns c = no_shorter-all _ _ _ c.loop-vrp.invariant c.loop-vrp-test.false
