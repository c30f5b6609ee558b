use Rattle.payload.proofs.Vocabulary.{◌+◌, ◌-◌, ◌<◌, ◌≤◌, arith, refl, ap, width, first_below}
use Rattle.payload.proofs.Prefixes.{top-fits, cut-aligned, cut-fits, round-both, round-length}
use Rattle.payload.proofs.search.common_bound.Goals as goal

pub overflow_sub-result : goal.overflow_sub-result
overflow_sub-result c =
    let top : c.ilog2.result < width c.args.low.now.family = top-fits c.args.low.now c.args.high.now _ c.requires.family c.ilog2.ensures.power_le in
    omega arith

pub invariant_of-result : goal.invariant_of-result
invariant_of-result c =
    let top : c.ilog2.result < width c.args.low.now.family = top-fits c.args.low.now c.args.high.now _ c.requires.family c.ilog2.ensures.power_le in
    let fits : c.ilog2.result + 1 ≤ width c.args.low.now.family = omega arith in
    record {
      length_fits = omega arith;
      aligned = cut-aligned c.args.low.now.first _ _ _ _ c.without_low_bits.ensures c.width.ensures fits;
      in_family = cut-fits c.args.low.now.first _ _ _ _ c.without_low_bits.ensures c.width.ensures fits (first_below c.args.low.now);
    }

pub returns-clause-order : goal.returns-clause-order
returns-clause-order c p in-low in-high =
    round-both p c.args.low.now c.args.high.now _ _ _ c.ilog2.result in-low in-high c.requires.order c.ilog2.ensures.power_le refl c.without_low_bits.ensures (ap (λ w. w - (c.ilog2.result + 1)) c.width.ensures)

pub returns-clause-length : goal.returns-clause-length
returns-clause-length c p in-low in-high =
    round-length p c.args.low.now c.args.high.now _ c.ilog2.result in-low in-high c.requires.order c.ilog2.ensures.power_le (ap (λ w. w - (c.ilog2.result + 1)) c.width.ensures)
