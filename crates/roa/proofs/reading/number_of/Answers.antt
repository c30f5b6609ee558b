use Rattle.roa.proofs.Vocabulary.{◌<◌, ◌^◌, take, arith, refl, be_value}
use Rattle.roa.proofs.Octets.{AreOctets-from_index, be_value_more, be_value_short}
use Rattle.roa.proofs.reading.number_of.Goals as goal

pub overflow_mul-number : goal.overflow_mul-number
overflow_mul-number c =
    let octets = AreOctets-from_index c.args.octets.now (λ i. omega (arith, c.type_inv.octets i)) in
    let small : be_value (take c.loop-octet.octet-index c.args.octets.now) < 2 ^ 120 = be_value_short c.args.octets.now c.loop-octet.octet-index octets (omega arith) in
    omega (arith, small, c.loop-octet.invariant)

pub overflow_add-number : goal.overflow_add-number
overflow_add-number c =
    let octets = AreOctets-from_index c.args.octets.now (λ i. omega (arith, c.type_inv.octets i)) in
    let small : be_value (take c.loop-octet.octet-index c.args.octets.now) < 2 ^ 120 = be_value_short c.args.octets.now c.loop-octet.octet-index octets (omega arith) in
    omega (arith, small, c.loop-octet.invariant, c.from.ensures, c.type_inv.octets c.loop-octet.octet-index)

pub loop-octet-preserved : goal.loop-octet-preserved
loop-octet-preserved c = rw (be_value_more c.args.octets.now c.loop-octet.octet-index c.from.result c.loop-octet-test.true c.from.ensures, c.loop-octet.invariant) refl
