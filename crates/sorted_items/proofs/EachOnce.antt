-- Items that rise by a total order: what a test of all neighbours answers, and sorted items of which
-- no two tie.
use Rattle.std.proofs.Common.{◌≡◌, ◌↔◌, ℕ, zero, suc, ◌+◌, ◌<◌, Bool, true, false, List, [], ◌∷◌, length, get_or, refl, sym, ap, subst, ◌∙◌, arith, Ordering, IsTrue}
use Rattle.std.specs.Cmp.{IsTotalOrder}
use Rattle.std.specs.List.{AllAdjacentBelow, AllByRecursion, IsAllAdjacentAnswer, IsDistinct}
use Rattle.std.specs.List.Sorted.{IsPermutation, IsSortedBy, IsStrictlySortedBy}
use Rattle.std.specs.Ordering.{eq_by_cmp, is_eq, is_lt, ordering_reverse}
use Rattle.std.specs.declared.cmp.Ordering.TheVariants.{Less, Equal, Greater}
use Rattle.std.proofs.lemmas.Bool.{both_ways}
use Rattle.std.proofs.lemmas.Cmp.{eq_by_cmp_equiv}
use Rattle.std.proofs.lemmas.List.Sorted.{IsPermutation-sym}
use Rattle.std.proofs.lemmas.Map.Keys.{apart_from_distinct, IsDistinct-IsPermutation, IsDistinct-from_sorted}

module _ {X : Type 0} {cmp : X → X → Ordering} (total : IsTotalOrder cmp) where
  abbrev Rise : List X → Type 0
  Rise xs = IsStrictlySortedBy cmp xs

  abbrev is_before : X → X → Bool
  is_before x y = is_lt (cmp x y)

  less_from : (o : Ordering) → is_lt o ≡ true → o ≡ Less
  less_from Less h = refl
  less_from Equal h = cc
  less_from Greater h = cc

  before-all : (x y : X) (zs : List X) → cmp x y ≡ Less → AllByRecursion (λ z. cmp y z ≡ Less) zs → AllByRecursion (λ z. cmp x z ≡ Less) zs
  before-all x y [] less all = tt
  before-all x y (z ∷ zs) less all = (total.trans x y z less all.0, before-all x y zs less all.1)

  -- an item goes in front of those that rise and whose first is after it
  pub rise-cons : (x y : X) (ys : List X) → cmp x y ≡ Less → Rise (y ∷ ys) → Rise (x ∷ y ∷ ys)
  unfolding IsStrictlySortedBy
  rise-cons x y ys less rising = ((less, before-all x y ys less rising.0), rising)

  rise-from_index : (xs : List X) → AllAdjacentBelow (λ x y. is_before x y ≡ true) xs (length xs) → Rise xs
  unfolding IsStrictlySortedBy
  rise-from_index [] all = tt
  rise-from_index (x ∷ []) all = (tt, tt)
  rise-from_index (x ∷ y ∷ ys) all =
      let tail : AllAdjacentBelow (λ a b. is_before a b ≡ true) (y ∷ ys) (length (y ∷ ys)) = λ k d within.
      let next : suc k + 1 ≡ suc (k + 1) = omega arith in
      subst (λ (j : ℕ). is_before (get_or (y ∷ ys) k d) (get_or (x ∷ y ∷ ys) j d) ≡ true) next (all (suc k) d (omega (arith, within))) in
      rise-cons x y ys (less_from (cmp x y) (all 0 x (omega arith))) (rise-from_index (y ∷ ys) tail)

  rise-at : (xs : List X) (k : ℕ) (d : X) → Rise xs → k + 1 < length xs → is_before (get_or xs k d) (get_or xs (k + 1) d) ≡ true
  unfolding IsStrictlySortedBy
  rise-at [] k d rising within = absurd (omega (arith, within))
  rise-at (x ∷ []) k d rising within = absurd (omega (arith, within))
  rise-at (x ∷ y ∷ ys) zero d rising within = ap is_lt rising.0.0
  rise-at (x ∷ y ∷ ys) (suc k) d rising within =
      let next : suc (k + 1) ≡ suc k + 1 = omega arith in
      subst (λ (j : ℕ). is_before (get_or (y ∷ ys) k d) (get_or (x ∷ y ∷ ys) j d) ≡ true) next (rise-at (y ∷ ys) k d rising.1 (omega (arith, within)))

  -- items of which the test of all neighbours fails have two neighbours that do not rise
  falls : (P : Type 0) (xs : List X) → IsAllAdjacentAnswer (λ x y t. t ≡ is_before x y) xs false
      → (P → (k : ℕ) (d : X) → k + 1 < length xs → is_before (get_or xs k d) (get_or xs (k + 1) d) ≡ true) → P → ⊥
  falls P [] answer rises p = omega (arith, answer.1)
  falls P (x ∷ xs) answer rises p = both_ways _ (sym (answer.2 x)) (rises p answer.0 x answer.1)

  pub rise-from_answer : (xs : List X) (r : Bool) → IsAllAdjacentAnswer (λ x y t. t ≡ is_before x y) xs r → IsTrue r ↔ Rise xs
  rise-from_answer xs true answer = (λ _. rise-from_index xs (λ k d within. sym (answer k d within)), λ _. refl)
  rise-from_answer xs false answer = (λ t. absurd cc, λ rising. absurd (falls (Rise xs) xs answer (λ up k d. rise-at xs k d up) rising))

  -- sorted items of which no two tie rise, and no others do
  pub once-from_answer : (given sorted : List X) (r : Bool) → IsPermutation given sorted → IsSortedBy is_before sorted → IsTrue r ↔ Rise sorted → IsTrue r ↔ IsDistinct (eq_by_cmp cmp) given
  once-from_answer given sorted r moved up answer = (
    λ t. move sorted given (IsPermutation-sym given sorted moved) (IsDistinct-from_sorted cmp sorted (answer.0 t)),
    λ once. answer.1 (rise-from_index sorted (λ k d within. next k d within (move given sorted moved once))),
  )
    where
      move : (xs ys : List X) → IsPermutation xs ys → IsDistinct (eq_by_cmp cmp) xs → IsDistinct (eq_by_cmp cmp) ys
      move = IsDistinct-IsPermutation (eq_by_cmp cmp) (eq_by_cmp_equiv total).symm

      by_order : (x y : X) (o : Ordering) → cmp x y ≡ o → is_before y x ≡ false → eq_by_cmp cmp x y ≡ false → is_before x y ≡ true
      by_order x y Less is low apart = ap is_lt is
      by_order x y Equal is low apart = absurd (both_ways _ apart (ap is_eq is))
      by_order x y Greater is low apart = absurd (both_ways _ low (ap is_lt (total.antisymm y x ∙ ap ordering_reverse is)))

      next : (k : ℕ) (d : X) → k + 1 < length sorted → IsDistinct (eq_by_cmp cmp) sorted → is_before (get_or sorted k d) (get_or sorted (k + 1) d) ≡ true
      next k d within once =
          by_order _ _ _ refl (up k d (omega arith) within) (apart_from_distinct (eq_by_cmp cmp) sorted k (k + 1) d once (omega arith) within)
