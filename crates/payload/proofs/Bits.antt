-- The bits of a prefix from some place on.
use Rattle.payload.proofs.Vocabulary.{◌≡◌, ℕ, zero, suc, ◌+◌, ◌-◌, ◌≤◌, ◌<◌, Bool, true, false, ◌==◌, [], ◌∷◌, length, refl, ap, ◌∙◌, arith, ◌↔◌, IsTrue, eq-eqb, ne_eqb, false≢true, bit_of, Prefix, last_bits, bits_from}

pub is_one : (b : Bool) (n : ℕ) → IsTrue b ↔ (n ≡ 1) → (n == 1) ≡ b
is_one true n is = eq-eqb n 1 (is.0 refl)
is_one false n is = ne_eqb n 1 (λ e. false≢true (is.1 e))

pub bits_from-end : (p : Prefix) (at : ℕ) → p.length ≤ at → bits_from p at ≡ []
bits_from-end p at past = let none : p.length - at ≡ 0 = omega arith in ap (last_bits p) none

pub next-bit : (p : Prefix) (at : ℕ) (b : Bool) → at < p.length → (bit_of p at == 1) ≡ b → bits_from p at ≡ b ∷ bits_from p (at + 1)
next-bit p at b within is =
    let n = p.length - (at + 1) in
    let more : p.length - at ≡ suc n = omega arith in
    let place : p.length - suc n ≡ at = omega arith in
    ap (last_bits p) more ∙ ap (λ k. (bit_of p k == 1) ∷ last_bits p n) place ∙ ap (λ t. t ∷ last_bits p n) is

pub bits_from-next : (p : Prefix) (at : ℕ) (b : Bool) → at < p.length → IsTrue b ↔ (bit_of p at ≡ 1) → bits_from p at ≡ b ∷ bits_from p (at + 1)
bits_from-next p at b within is = next-bit p at b within (is_one b (bit_of p at) is)

length-last_bits : (p : Prefix) (n : ℕ) → length (last_bits p n) ≡ n
length-last_bits p zero = refl
length-last_bits p (suc n) = ap suc (length-last_bits p n)

pub length-bits_from : (p : Prefix) (at : ℕ) → length (bits_from p at) ≡ p.length - at
length-bits_from p at = length-last_bits p (p.length - at)
