use Rattle.roa.proofs.Vocabulary.{ℕ, List, ◌≡◌, ◌∷◌, ◌-◌, ◌*◌, ◌≤◌, ◌/◌, length, subst, ap, arith, width, AreOctets}
use Rattle.roa.proofs.Octets.{AreOctets-from_index}
use Rattle.roa.proofs.Primitives.{prefix_made}
use Rattle.roa.proofs.reading.read_prefix.Goals as goal

pub returns-clause-numbers : goal.returns-clause-numbers
returns-clause-numbers c =
    let unused : ℕ = c.in_ok-unused.unused.now in
    let octets : List ℕ = c.in_ok-unused.octets.now in
    let parts : c.args.contents.now ≡ c.in_ok-unused.unused.now ∷ c.in_ok-unused.octets.now = c.in_ok-unused.ensures.cases.0 in
    let all = AreOctets-from_index c.args.contents.now (λ i. omega (arith, c.type_inv.contents i)) in
    let are = (subst (λ (x : List ℕ). AreOctets x) parts all).1 in
    let few : c.in_ok-unused.unused.now ≤ 7 = omega arith in
    let narrow : length c.in_ok-unused.octets.now ≤ width c.args.family / 8 = omega arith in
    let long : c.in_ok-unused.unused.now ≤ 8 * length c.in_ok-unused.octets.now = omega arith in
    let bits : 8 * length c.in_ok-unused.octets.now - c.from-3.result ≡ 8 * length c.in_ok-unused.octets.now - c.in_ok-unused.unused.now = ap (λ (n : ℕ). 8 * length c.in_ok-unused.octets.now - n) c.from-3.ensures in
    rw parts (prefix_made c.args.family unused octets c.first_address.result (8 * length octets - c.from-3.result) c.from_parts.result are few narrow long c.first_address.ensures bits c.from_parts.ensures.some c.from_parts.ensures.parts)
