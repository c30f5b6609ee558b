-- The lower of two faults, and the lowest fault of a list that is read from its front.
use Rattle.std.proofs.Common.{◌≡◌, ℕ, ◌≤◌, ◌<◌, inl, inr, List, [], ◌∷◌, ◌++◌, Result, Ok, Err, refl, ap, sym, ◌∙◌, arith}
use Rattle.std.proofs.lemmas.Bool.Decides.{leb_tells, nat_tests}
use Rattle.json_values.specs.Parts.{both, each, lower, mapped, unless, with_last}

pub lower-first : {F : Type 0} (number : F → ℕ) (one other : F) → number one ≤ number other → lower number one other ≡ one
unfolding lower
lower-first number one other below = grind (arith, nat_tests)

lower-second : {F : Type 0} (number : F → ℕ) (one other : F) → number other < number one → lower number one other ≡ other
unfolding lower
lower-second number one other below = grind (arith, nat_tests)

-- a fact of both faults is one of the lower
pub lower-each : {F : Type 0} (number : F → ℕ) (P : F → Type 0) (one other : F) → P one → P other → P (lower number one other)
unfolding lower
lower-each number P one other h k =
    elim (leb_tells (number one) (number other)) [ inl first ↦ rw first.0 h | inr second ↦ rw second.0 k ]

pub lower_assoc : {F : Type 0} (number : F → ℕ) (a b c : F) → lower number (lower number a b) c ≡ lower number a (lower number b c)
lower_assoc number a b c =
    elim (leb_tells (number a) (number b)) [
      | inl ab ↦ elim (leb_tells (number b) (number c)) [
        | inl bc ↦ rw (lower-first number a b ab.1, lower-first number b c bc.1, lower-first number a b ab.1) (lower-first number a c (omega arith))
        | inr bc ↦ rw (lower-first number a b ab.1, lower-second number b c bc.1) refl
      ]
      | inr ab ↦ elim (leb_tells (number b) (number c)) [
        | inl bc ↦ rw (lower-second number a b ab.1, lower-first number b c bc.1, lower-second number a b ab.1) refl
        | inr bc ↦ rw (lower-second number a b ab.1, lower-second number b c bc.1) (sym (lower-second number a c (omega arith)))
      ]
    ]

pub mapped-unless : {A B C F : Type 0} (number : F → ℕ) (f : A → C) (value : Result A F) (other : Result B F) →
    mapped f (unless number value other) ≡ unless number (mapped f value) other
mapped-unless number f (Ok a) (Ok b) = refl
mapped-unless number f (Ok a) (Err n) = refl
mapped-unless number f (Err m) (Ok b) = refl
mapped-unless number f (Err m) (Err n) = refl

-- an item at the front and one at the end of a list, read in either order
both-ends : {A F : Type 0} (number : F → ℕ) (first : Result A F) (middle : Result (List A) F) (last : Result A F) →
    mapped (λ p. p.0 ∷ p.1) (both number first (with_last number middle last))
    ≡ with_last number (mapped (λ p. p.0 ∷ p.1) (both number first middle)) last
both-ends number (Ok a) (Ok m) (Ok z) = refl
both-ends number (Ok a) (Ok m) (Err z) = refl
both-ends number (Ok a) (Err m) (Ok z) = refl
both-ends number (Ok a) (Err m) (Err z) = refl
both-ends number (Err a) (Ok m) (Ok z) = refl
both-ends number (Err a) (Ok m) (Err z) = refl
both-ends number (Err a) (Err m) (Ok z) = refl
both-ends number (Err a) (Err m) (Err z) = ap Err (sym (lower_assoc number a m z))

pub each-append : {A D F : Type 0} (number : F → ℕ) (reading : D → Result A F) (ds : List D) (d : D) →
    each number reading (ds ++ d ∷ []) ≡ with_last number (each number reading ds) (reading d)
each-append {A} {D} {F} number reading [] d = alone (reading d)
  where
    alone : (r : Result A F) → mapped {B = List A} (λ p. p.0 ∷ p.1) (both number r (Ok [])) ≡ with_last number (Ok []) r
    alone (Ok a) = refl
    alone (Err n) = refl
each-append number reading (x ∷ ds) d =
    ap (λ rest. mapped (λ p. p.0 ∷ p.1) (both number (reading x) rest)) (each-append number reading ds d)
    ∙ both-ends number (reading x) (each number reading ds) (reading d)
