use Rattle.registry.proofs.Vocabulary.{arith, subst, take_all, All-more, ImportRowFits}
use Rattle.registry.proofs.values.rows_fit.Goals as goal

pub loop-row-preserved : goal.loop-row-preserved
loop-row-preserved c =
    let xs = c.args.rows.now in
    All-more ImportRowFits xs c.loop-row.row-index c.row-item.result (omega arith) c.loop-row.invariant (subst ImportRowFits c.row-item.is c.row_fits.ensures)

pub returns : goal.returns
returns c = rw (take_all c.loop-row.row-index c.args.rows.now (omega arith)) at c.loop-row.invariant
