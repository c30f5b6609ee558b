-- Items that are put in order one by one: they rise where none is there twice, and have that order alone.
use Rattle.requests.proofs.Vocabulary.{◌≡◌, zero, suc, arith, Bool, true, false, if◌then◌else◌, List, [], ◌∷◌, Ordering, inl, inr, refl, sym, ap, subst, ◌∙◌, IsPermutation, Less, Equal, Greater, IsTotalOrder, is_lt, ordering_reverse, AllByRecursion, Contains, All-contains, Contains-append_right, Contains-permutation, list_any, both_ways, or_parts, All-from_recursion, IsPermutation-refl, IsPermutation-sym, IsPermutation-trans, IsPermutation-cons, IsPermutation-middle, list_any-IsPermutation, sorted_head, sorted_tail, has_repeat, in_order, with_item}
use Rattle.std.specs.Prelude.{◌⊎◌}
use Rattle.std.specs.List.Sorted.{IsStrictlySortedBy}

module _ {A : Type 0} (order : A → A → Ordering) (total : IsTotalOrder order) where
  not_before_itself : (x : A) → order x x ≡ Less → ⊥
  not_before_itself x less =
      let back : order x x ≡ Greater = total.antisymm x x ∙ ap ordering_reverse less in
      absurd cc

  -- ---- before all of some items

  abbrev pub IsBefore : A → List A → Type 0
  IsBefore x ys = AllByRecursion (λ y. order x y ≡ Less) ys

  pub before_too : (x y : A) (zs : List A) → order x y ≡ Less → IsBefore y zs → IsBefore x zs
  before_too x y [] less before = tt
  before_too x y (z ∷ zs) less before = (total.trans x y z less before.0, before_too x y zs less before.1)

  pub rises_behind : (x : A) (ys : List A) → IsBefore x ys → IsStrictlySortedBy order ys → IsStrictlySortedBy order (x ∷ ys)
  unfolding IsStrictlySortedBy
  rises_behind x ys before rising = (before, rising)

  -- ---- two rising lists of the same items are equal

  -- an item is the first or among the others
  first_or_later : (x y : A) (ys : List A) → Contains (y ∷ ys) x → (y ≡ x) ⊎ Contains ys x
  first_or_later x y ys (zero, below, is) = inl is
  first_or_later x y ys (suc i, below, is) = inr (i, omega arith, is)

  had_before : (x y : A) (zs : List A) → IsBefore x zs → Contains zs y → order x y ≡ Less
  had_before x y zs before has = All-contains (λ z. order x z ≡ Less) zs y (All-from_recursion (λ z. order x z ≡ Less) zs before) has

  same_first : (x y : A) (xs ys : List A) → IsBefore x xs → IsBefore y ys → (y ≡ x) ⊎ Contains ys x → (x ≡ y) ⊎ Contains xs y → x ≡ y
  same_first x y xs ys one other (inl is) back = sym is
  same_first x y xs ys one other (inr has) (inl is) = is
  same_first x y xs ys one other (inr has) (inr back) =
      absurd (not_before_itself x (total.trans x y x (had_before x y xs one back) (had_before y x ys other has)))

  -- what is after the first in one is so in the other
  later : (x y z : A) (xs ys : List A) → IsBefore x xs → x ≡ y → Contains xs z → (y ≡ z) ⊎ Contains ys z → Contains ys z
  later x y z xs ys before first has (inl is) =
      absurd (not_before_itself x (subst (λ a. order x a ≡ Less) (sym (first ∙ is)) (had_before x z xs before has)))
  later x y z xs ys before first has (inr there) = there

  same_list : (xs ys : List A) → IsStrictlySortedBy order xs → IsStrictlySortedBy order ys
      → ((z : A) → Contains xs z → Contains ys z) → ((z : A) → Contains ys z → Contains xs z) → xs ≡ ys
  same_list [] [] one other to back = refl
  same_list [] (y ∷ ys) one other to back = let none = (back y (0, omega arith, refl)).1 in absurd (omega arith)
  same_list (x ∷ xs) [] one other to back = let none = (to x (0, omega arith, refl)).1 in absurd (omega arith)
  same_list (x ∷ xs) (y ∷ ys) one other to back =
      let after = sorted_head order x xs one in
      let behind = sorted_head order y ys other in
      let first : x ≡ y = same_first x y xs ys after behind (first_or_later x y ys (to x (0, omega arith, refl))) (first_or_later y x xs (back y (0, omega arith, refl))) in
      let rest : xs ≡ ys = same_list xs ys (sorted_tail order x xs one) (sorted_tail order y ys other)
      (λ z has. later x y z xs ys after first has (first_or_later z y ys (to z (Contains-append_right (x ∷ []) xs z has))))
      (λ z has. later y x z ys xs behind (sym first) has (first_or_later z x xs (back z (Contains-append_right (y ∷ []) ys z has)))) in
      λ i. first i ∷ rest i

  one_order : (xs ys : List A) → IsPermutation xs ys → IsStrictlySortedBy order xs → IsStrictlySortedBy order ys → ys ≡ xs
  one_order xs ys moved one other =
      same_list ys xs other one (λ z. Contains-permutation ys xs z (IsPermutation-sym xs ys moved)) (λ z. Contains-permutation xs ys z moved)

  -- ---- the same items in order

  with_item-moves : (new : A) (xs : List A) → IsPermutation (new ∷ xs) (with_item order new xs)
  with_item-moves new [] = IsPermutation-refl (new ∷ [])
  with_item-moves new (x ∷ xs) =
      elim (is_lt (order new x)) as (λ b. IsPermutation (new ∷ x ∷ xs) (if b then new ∷ x ∷ xs else x ∷ with_item order new xs)) [
        | true ↦ IsPermutation-refl (new ∷ x ∷ xs)
        | false ↦ IsPermutation-trans _ _ _ (IsPermutation-middle (new ∷ []) x xs) (IsPermutation-cons x _ _ (with_item-moves new xs))
      ]

  pub in_order-moves : (xs : List A) → IsPermutation xs (in_order order xs)
  in_order-moves [] = IsPermutation-refl []
  in_order-moves (x ∷ xs) =
      IsPermutation-trans _ _ _ (IsPermutation-cons x _ _ (in_order-moves xs)) (with_item-moves x (in_order order xs))

  -- ---- they rise

  with_item-before : (x new : A) (ys : List A) → order x new ≡ Less → IsBefore x ys → IsBefore x (with_item order new ys)
  with_item-before x new [] less before = (less, tt)
  with_item-before x new (y ∷ ys) less before =
      elim (is_lt (order new y)) as (λ b. IsBefore x (if b then new ∷ y ∷ ys else y ∷ with_item order new ys)) [
        | true ↦ (less, before)
        | false ↦ (before.0, with_item-before x new ys less before.1)
      ]

  -- where what is neither before nor after another is the same by this test
  module _ (same : A → A → Bool) (tied : (x y : A) → order x y ≡ Equal → same x y ≡ true) where
    with_item-rises : (new : A) (xs : List A) → IsStrictlySortedBy order xs → list_any (λ x. same new x) xs ≡ false
        → IsStrictlySortedBy order (with_item order new xs)
    with_item-rises new [] rising none = rises_behind new [] tt rising
    with_item-rises new (x ∷ xs) rising none =
        by_order (order new x) refl (with_item-rises new xs (sorted_tail order x xs rising) apart.1)
      where
        apart : (same new x ≡ false) × (list_any (λ y. same new y) xs ≡ false)
        apart = or_parts (same new x) (list_any (λ y. same new y) xs) none

        by_order : (o : Ordering) → order new x ≡ o → IsStrictlySortedBy order (with_item order new xs)
            → IsStrictlySortedBy order (if is_lt o then new ∷ x ∷ xs else x ∷ with_item order new xs)
        by_order Less is later = rises_behind new (x ∷ xs) (is, before_too new x xs is (sorted_head order x xs rising)) rising
        by_order Equal is later = absurd (both_ways (same new x) apart.0 (tied new x is))
        by_order Greater is later =
            let less : order x new ≡ Less = total.antisymm x new ∙ ap ordering_reverse is in
            rises_behind x (with_item order new xs) (with_item-before x new xs less (sorted_head order x xs rising)) later

    pub in_order-rises : (xs : List A) → has_repeat same xs ≡ false → IsStrictlySortedBy order (in_order order xs)
    unfolding IsStrictlySortedBy
    in_order-rises [] once = tt
    in_order-rises (x ∷ xs) once =
        let parts = or_parts (list_any (λ y. same x y) xs) (has_repeat same xs) once in
        with_item-rises x (in_order order xs) (in_order-rises xs parts.1)
        (sym (list_any-IsPermutation (λ y. same x y) xs (in_order order xs) (in_order-moves xs)) ∙ parts.0)

    -- what rises and has the same items is in that order
    pub is_in_order : (xs made : List A) → has_repeat same xs ≡ false → IsPermutation xs made → IsStrictlySortedBy order made → made ≡ in_order order xs
    is_in_order xs made once moved rising =
        one_order (in_order order xs) made (IsPermutation-trans _ _ _ (IsPermutation-sym _ _ (in_order-moves xs)) moved) (in_order-rises xs once) rising
