use Rattle.registry.proofs.Vocabulary.{arith, subst, take_all, All-more, VrpFits}
use Rattle.registry.proofs.values.assertions_fit.Goals as goal

pub loop-assertion-preserved : goal.loop-assertion-preserved
loop-assertion-preserved c =
    let xs = c.args.assertions.now in
    All-more VrpFits xs c.loop-assertion.assertion-index c.assertion-item.result (omega arith) c.loop-assertion.invariant (subst VrpFits c.assertion-item.is c.number_fits.ensures)

pub returns : goal.returns
returns c = rw (take_all c.loop-assertion.assertion-index c.args.assertions.now (omega arith)) at c.loop-assertion.invariant
