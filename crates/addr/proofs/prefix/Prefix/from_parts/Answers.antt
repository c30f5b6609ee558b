use Rattle.addr.proofs.Vocabulary.{arith, sub-le, ◌^◌, ◌<◌, ◌≤◌, ◌≡◌, ◌%◌, ◌-◌, width, pow_pos}
use Rattle.addr.proofs.AddressLemmas.{multiple-fits}
use Rattle.addr.proofs.prefix.Prefix.from_parts.Goals as goal

-- The tests that led here are those of the ghost fields, except the room of a whole prefix.
pub invariant_of-result : goal.invariant_of-result
invariant_of-result c =
    let fits : c.args.length ≤ width c.args.family = omega arith in
    let below : c.args.first < 2 ^ width c.args.family = omega (arith, pow_pos (width c.args.family)) in
    let multiple : c.args.first % 2 ^ (width c.args.family - c.args.length) ≡ 0 = rw (← c.width-2.ensures) (c.is_multiple.ensures.0 c.if-not-is_multiple.false) in
    record { length_fits = fits; aligned = multiple; in_family = multiple-fits c.args.first (width c.args.family - c.args.length) (width c.args.family) (sub-le (width c.args.family) c.args.length) below multiple }
