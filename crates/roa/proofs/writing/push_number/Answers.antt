use Rattle.roa.proofs.Vocabulary.{◌≤◌, arith}
use Rattle.roa.proofs.Octets.{unit_is, octet_below, octet_written, rest_below}
use Rattle.roa.proofs.writing.push_number.Goals as goal

pub overflow_cast-rest : goal.overflow_cast-rest
overflow_cast-rest c =
    let few : c.loop-place.place ≤ 16 = omega (arith, c.loop-place.auto.place) in
    let below = octet_below c.loop-place.place c.loop-place.rest c.loop-place-test.true c.loop-place.invariant.below in
    rw (unit_is c.loop-place.place c.loop-place-test.true few) (omega (arith, below))

pub loop-place-preserved : goal.loop-place-preserved
loop-place-preserved c =
    let few : c.loop-place.place ≤ 16 = omega (arith, c.loop-place.auto.place) in
    let unit = unit_is c.loop-place.place c.loop-place-test.true few in
    rw (c.in_ok-push.ensures.items, unit)
    (record {
      so_far = octet_written c.args.out.now.items c.loop-place.out.items c.loop-place.place c.loop-place.rest c.args.count c.args.number c.loop-place-test.true c.loop-place.invariant.so_far;
      below = rest_below c.loop-place.place c.loop-place.rest;
    })
