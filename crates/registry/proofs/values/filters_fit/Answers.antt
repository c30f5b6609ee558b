use Rattle.registry.proofs.Vocabulary.{arith, subst, take_all, All-more, FilterFits}
use Rattle.registry.proofs.values.filters_fit.Goals as goal

pub loop-filter-preserved : goal.loop-filter-preserved
loop-filter-preserved c =
    let xs = c.args.filters.now in
    All-more FilterFits xs c.loop-filter.filter-index c.filter-item.result (omega arith) c.loop-filter.invariant (subst FilterFits c.filter-item.is c.filter_fits.ensures)

pub returns : goal.returns
returns c = rw (take_all c.loop-filter.filter-index c.args.filters.now (omega arith)) at c.loop-filter.invariant
