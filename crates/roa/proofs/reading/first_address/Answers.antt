use Rattle.roa.proofs.Vocabulary.{◌≡◌, ◌-◌, ◌*◌, ◌<◌, ◌%◌, ◌^◌, length, ◌∙◌, arith, SomeIff, width}
use Rattle.roa.proofs.Octets.{AreOctets-from_index}
use Rattle.roa.proofs.Primitives.{first_of, shifted_is}
use Rattle.roa.proofs.reading.first_address.Goals as goal

pub returns : goal.returns
returns c =
    let octets = AreOctets-from_index c.args.octets.now (λ i. omega (arith, c.type_inv.octets i)) in
    let missing : c.from.result ≡ width c.args.family = cc in
    let shifted : SomeIff c.checked_shl.result (width c.args.family - 8 * length c.args.octets.now < 128) (first_of c.args.family c.args.octets.now % 2 ^ 128) =
    rw (← missing, ← c.number_of.ensures) c.checked_shl.ensures in
    c.unwrap_or.ensures ∙ shifted_is c.args.family c.args.octets.now c.checked_shl.result octets c.requires shifted
