use Rattle.json_values.proofs.TreeLemmas.{each-more}
use Rattle.json_values.proofs.lists.each.Goals as goal

pub loop-value-preserved : goal.loop-value-preserved
loop-value-preserved g c =
    each-more g.F.Fault.number g.T.FromJsonIn.reading c.args.values.now c.loop-value.value-index c.value-item.result _ _ c.in_ok-read.read
    c.loop-value-test.true c.value-item.is c.loop-value.invariant c.in_ok-read.ensures c.in_ok-add.ensures
