use Rattle.registry.proofs.Vocabulary.{arith, subst, take_all, All-more, AskedFits}
use Rattle.registry.proofs.laws.all_asked_fit.Goals as goal

pub loop-asked-preserved : goal.loop-asked-preserved
loop-asked-preserved c =
    let xs = c.args.list.now in
    All-more AskedFits xs c.loop-asked.asked-index c.asked-item.result (omega arith) c.loop-asked.invariant (subst AskedFits c.asked-item.is c.asked_fits.ensures)

pub returns : goal.returns
returns c = rw (take_all c.loop-asked.asked-index c.args.list.now (omega arith)) at c.loop-asked.invariant
