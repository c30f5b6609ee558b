-- The place of an item among items that rise by a total order, whether it is there or not.
use Rattle.std.proofs.Common.{◌≡◌, ℕ, ◌+◌, ◌-◌, ◌≤◌, ◌<◌, Bool, true, false, not, ◌&&◌, ◌||◌, List, [], ◌∷◌, length, get_or, refl, sym, ap, ◌∙◌, subst, arith, inl, inr, Ordering, Result, Ok, Err, is_ok}
use Rattle.std.specs.Cmp.{IsTotalOrder}
use Rattle.std.specs.List.{All, insert, remove, list_any}
use Rattle.std.specs.List.Sorted.{IsPartitionPoint, IsSortedBy, IsNonDecreasingBy, IsBinarySearchResult, IsSearchInRange}
use Rattle.std.specs.Ordering.{eq_by_cmp, is_eq, is_lt, ordering_reverse, ordering_index}
use Rattle.std.specs.declared.cmp.Ordering.TheVariants.{Less, Equal, Greater}
use Rattle.std.proofs.lemmas.Bool.{cases_lt, cases_order, or_cases, and_parts}
use Rattle.std.proofs.lemmas.Cmp.{tied_itself}
use Rattle.std.proofs.lemmas.List.{get_or_default}
use Rattle.std.proofs.lemmas.List.Edits.{length-insert, get_or-insert_below, get_or-insert_at, get_or-insert_above, length-remove, get_or-remove_below, get_or-remove_above}
use Rattle.std.proofs.lemmas.List.Folds.{list_any_none, list_any_at}
use Rattle.std.proofs.lemmas.List.Sorted.{searchable_from_sorted, IsPermutation-insert, IsPermutation-remove, list_any-IsPermutation}
use Rattle.std.proofs.lemmas.List.Elements.{All-head, All-tail}
use Rattle.sorted_items.specs.Rising.{RiseBy}

module _ {X : Type 0} {cmp : X → X → Ordering} (total : IsTotalOrder cmp) where
  abbrev is : X → X → Bool
  is x y = eq_by_cmp cmp x y

  turned : (x y : X) (o : Ordering) → cmp x y ≡ o → cmp y x ≡ ordering_reverse o
  turned x y o h = total.antisymm y x ∙ ap ordering_reverse h

  apart-less : (x y : X) → cmp x y ≡ Less → is y x ≡ false
  apart-less x y h = ap is_eq (turned x y Less h)

  apart-greater : (x y : X) → cmp x y ≡ Greater → is y x ≡ false
  apart-greater x y h = ap is_eq (turned x y Greater h)

  sorted-from_rising : (xs : List X) → RiseBy cmp xs → IsSortedBy (λ x y. is_lt (cmp x y)) xs
  sorted-from_rising xs rising k d low high = ap is_lt (turned (get_or xs k d) (get_or xs (k + 1) d) Less (rising k (k + 1) d (omega arith) high))

  both-ways : (x y : X) → is x y ≡ is y x
  both-ways x y = ap is_eq (total.antisymm x y) ∙ same (cmp y x)
    where
      same : (o : Ordering) → is_eq (ordering_reverse o) ≡ is_eq o
      same Less = refl
      same Equal = refl
      same Greater = refl

  -- what a binary search asks
  searchable : (xs : List X) (x : X) → RiseBy cmp xs → IsNonDecreasingBy (λ y. ordering_index (cmp y x)) xs
  searchable xs x rising = searchable_from_sorted total (λ y. y) xs x (sorted-from_rising xs rising)

  -- the item at the place that a search found
  pub found : (xs : List X) (x : X) (at : ℕ) → at < length xs → IsBinarySearchResult (λ y. cmp y x) xs (Ok at) → list_any (is x) xs ≡ true
  found xs x at within tied = list_any_at (is x) xs at x within (ap is_eq (turned (get_or xs at x) x Equal (tied x)))

  -- the items before the place sort before x, and those from it on after x
  abbrev IsPlace : List X → X → ℕ → Type 0
  IsPlace xs x at = IsPartitionPoint (λ y. cmp y x ≡ Less) (λ y. cmp y x ≡ Greater) xs at

  place : (xs : List X) (x : X) (at : ℕ) → RiseBy cmp xs → IsBinarySearchResult (λ y. cmp y x) xs (Err at) → IsPlace xs x at
  place xs x at rising result = result (searchable xs x rising)

  pub absent : (xs : List X) (x : X) (at : ℕ) → RiseBy cmp xs → IsBinarySearchResult (λ y. cmp y x) xs (Err at) → list_any (is x) xs ≡ false
  absent xs x at rising result =
      let at_place = place xs x at rising result in
      list_any_none (is x) xs (λ k d within.
      elim (cases_lt k at) [
        | inl before ↦ apart-less (get_or xs k d) x (at_place.0 k d (omega arith) before)
        | inr after ↦ apart-greater (get_or xs k d) x (at_place.1 k d after within)
      ])

  pub search-contains : (xs : List X) (x : X) (r : Result ℕ ℕ) → RiseBy cmp xs → IsSearchInRange r (length xs) → IsBinarySearchResult (λ y. cmp y x) xs r → is_ok r ≡ list_any (is x) xs
  search-contains xs x (Ok at) rising range result = sym (found xs x at range result)
  search-contains xs x (Err at) rising range result = sym (absent xs x at rising result)

  -- the items still rise with x in its place
  rising-insert : (xs : List X) (x : X) (at : ℕ) → RiseBy cmp xs → at ≤ length xs → IsPlace xs x at → RiseBy cmp (insert xs at x)
  rising-insert xs x at rising fits at_place i j d less within =
      let long = length-insert xs at x fits in
      elim (cases_order j at) [
        | inl last ↦
            low i (omega arith) (λ y. cmp y (get_or (insert xs at x) j d) ≡ Less)
            (rw last (subst (λ y. cmp (get_or xs i d) y ≡ Less) (sym (get_or-insert_at xs at x d fits)) (at_place.0 i d (omega arith) (omega arith))))
        | inr (inl before) ↦
            low i (omega arith) (λ y. cmp y (get_or (insert xs at x) j d) ≡ Less)
            (low j before (λ y. cmp (get_or xs i d) y ≡ Less) (rising i j d less (omega arith)))
        | inr (inr after) ↦
            high j after (λ y. cmp (get_or (insert xs at x) i d) y ≡ Less)
            (elim (cases_order i at) [
              | inl first ↦ rw first (subst (λ y. cmp y (get_or xs (j - 1) d) ≡ Less) (sym (get_or-insert_at xs at x d fits)) (turned (get_or xs (j - 1) d) x Greater (at_place.1 (j - 1) d (omega arith) (omega arith))))
              | inr (inl before) ↦ low i before (λ y. cmp y (get_or xs (j - 1) d) ≡ Less) (rising i (j - 1) d (omega arith) (omega arith))
              | inr (inr both) ↦ high i both (λ y. cmp y (get_or xs (j - 1) d) ≡ Less) (rising (i - 1) (j - 1) d (omega arith) (omega arith))
            ])
      ]
    where
      low : (k : ℕ) → k < at → (P : X → Type 0) → P (get_or xs k d) → P (get_or (insert xs at x) k d)
      low k less' P h = subst P (sym (get_or-insert_below xs at x d k less' fits)) h

      high : (k : ℕ) → at < k → (P : X → Type 0) → P (get_or xs (k - 1) d) → P (get_or (insert xs at x) k d)
      high k more P h =
          let next : get_or (insert xs at x) ((k - 1) + 1) d ≡ get_or xs (k - 1) d = get_or-insert_above xs at x d (k - 1) (omega arith) fits in
          let same : (k - 1) + 1 ≡ k = omega arith in
          subst P (sym (subst (λ n. get_or (insert xs at x) n d ≡ get_or xs (k - 1) d) same next)) h

  -- an item that a search did not find is put in at the place that it gave
  pub insert-rises : (xs zs : List X) (x : X) (at : ℕ) → RiseBy cmp xs → at ≤ length xs → IsBinarySearchResult (λ y. cmp y x) xs (Err at) → zs ≡ insert xs at x → RiseBy cmp zs
  insert-rises xs zs x at rising fits result new = subst (RiseBy cmp) (sym new) (rising-insert xs x at rising fits (place xs x at rising result))

  pub insert-members : (xs zs : List X) (x : X) (at : ℕ) → zs ≡ insert xs at x → (y : X) → list_any (is y) zs ≡ (is y x || list_any (is y) xs)
  insert-members xs zs x at new y = ap (list_any (is y)) new ∙ sym (list_any-IsPermutation (is y) (x ∷ xs) (insert xs at x) (IsPermutation-insert xs at x))

  alike : (x y : X) → is y x ≡ true → (z : X) → is y z ≡ is x z
  alike x y same z = ap is_eq (total.congr y x z (equal _ same))
    where
      equal : (o : Ordering) → is_eq o ≡ true → o ≡ Equal
      equal Less e = cc
      equal Equal e = refl
      equal Greater e = cc

  any-alike : (x y : X) → is y x ≡ true → (xs : List X) → list_any (is y) xs ≡ list_any (is x) xs
  any-alike x y same xs = ap (λ (p : X → Bool). list_any p xs) (λ i z. alike x y same z i)

  -- an item that is there already changes nothing
  pub found-members : (xs : List X) (x : X) → list_any (is x) xs ≡ true → (y : X) → list_any (is y) xs ≡ (is y x || list_any (is y) xs)
  found-members xs x there y = by (is y x) refl
    where
      by : (b : Bool) → is y x ≡ b → list_any (is y) xs ≡ (is y x || list_any (is y) xs)
      by true e = any-alike x y e xs ∙ there ∙ sym (ap (λ b. b || list_any (is y) xs) e)
      by false e = sym (ap (λ b. b || list_any (is y) xs) e)

  -- an item that is not there is taken out to no effect
  pub absent-members : (xs : List X) (x : X) → list_any (is x) xs ≡ false → (y : X) → list_any (is y) xs ≡ (not (is y x) && list_any (is y) xs)
  absent-members xs x none y = by (is y x) refl
    where
      by : (b : Bool) → is y x ≡ b → list_any (is y) xs ≡ (not (is y x) && list_any (is y) xs)
      by true e = any-alike x y e xs ∙ none ∙ sym (ap (λ b. not b && list_any (is y) xs) e)
      by false e = sym (ap (λ b. not b && list_any (is y) xs) e)

  -- no item beside the place is alike to the one there
  others-differ : (xs : List X) (at : ℕ) (x : X) → RiseBy cmp xs → at < length xs → ((d : X) → get_or xs at d ≡ x) → list_any (is x) (remove xs at) ≡ false
  others-differ xs at x rising within here = list_any_none (is x) (remove xs at) (λ k d short.
      let long = length-remove xs at within in
      elim (cases_lt k at) [
        | inl before ↦
            subst (λ y. is x y ≡ false) (sym (get_or-remove_below xs at d k before within))
            (apart-less (get_or xs k d) x (subst (λ y. cmp (get_or xs k d) y ≡ Less) (here d) (rising k at d before within)))
        | inr after ↦
            subst (λ y. is x y ≡ false) (sym (get_or-remove_above xs at d k after within))
            (apart-greater (get_or xs (k + 1) d) x (turned x (get_or xs (k + 1) d) Less (subst (λ y. cmp y (get_or xs (k + 1) d) ≡ Less) (here d) (rising at (k + 1) d (omega arith) (omega arith)))))
      ])

  -- the item at the place that a search found is taken out
  pub remove-members : (xs zs : List X) (x : X) (at : ℕ) → RiseBy cmp xs → at < length xs → IsBinarySearchResult (λ y. cmp y x) xs (Ok at) → zs ≡ remove xs at → (y : X) → list_any (is y) zs ≡ (not (is y x) && list_any (is y) xs)
  remove-members xs zs x at rising within tied new y = ap (list_any (is y)) new ∙ by (is y x) refl
    where
      item : X
      item = get_or xs at x

      again : item ≡ get_or xs at item
      again = get_or_default xs at x item within

      there : (d : X) → get_or xs at d ≡ item
      there d = get_or_default xs at d x within

      tie : is item x ≡ true
      tie = ap is_eq (tied x)

      split : list_any (is y) xs ≡ (is y item || list_any (is y) (remove xs at))
      split = list_any-IsPermutation (is y) xs (item ∷ remove xs at) (IsPermutation-remove xs at item within again)

      one : is y item ≡ is y x
      one = both-ways y item ∙ alike x item tie y ∙ both-ways x y

      by : (b : Bool) → is y x ≡ b → list_any (is y) (remove xs at) ≡ (not (is y x) && list_any (is y) xs)
      by true e = any-alike item y (one ∙ e) (remove xs at) ∙ others-differ xs at item rising within there ∙ sym (ap (λ b. not b && list_any (is y) xs) e)
      by false e = sym (ap (λ b. not b && list_any (is y) xs) e ∙ split ∙ ap (λ b. b || list_any (is y) (remove xs at)) (one ∙ e))

-- items that tie are equal
module _ {X : Type 0} {cmp : X → X → Ordering} (total : IsTotalOrder cmp) (exact : (x y : X) → cmp x y ≡ Equal → x ≡ y) where
  pub same-item : (x y : X) → is total x y ≡ true → x ≡ y
  same-item x y h = exact x y (tie (cmp x y) h)
    where
      tie : (o : Ordering) → is_eq o ≡ true → o ≡ Equal
      tie Less e = cc
      tie Equal e = refl
      tie Greater e = cc

  -- what holds of each item holds of one that is there
  pub member-All : (P : X → Type 0) (xs : List X) (x : X) → All P xs → list_any (is total x) xs ≡ true → P x
  member-All P [] x all there = cc
  member-All P (y ∷ xs) x all there =
      elim (or_cases (is total x y) (list_any (is total x) xs) there) [
        | inl same ↦ subst P (sym (same-item x y same)) (All-head P y xs all)
        | inr later ↦ member-All P xs x (All-tail P y xs all) later
      ]

  pub All-members : (P : X → Type 0) (xs : List X) → ((x : X) → list_any (is total x) xs ≡ true → P x) → All P xs
  All-members P xs each k d within =
      each (get_or xs k d) (list_any_at (is total (get_or xs k d)) xs k d within (ap is_eq (tied_itself total (get_or xs k d))))

  pub All-inserted : (P : X → Type 0) (xs zs : List X) (x : X) → All P xs → P x → ((y : X) → list_any (is total y) zs ≡ (is total y x || list_any (is total y) xs)) → All P zs
  All-inserted P xs zs x all one members = All-members P zs (λ y there.
      elim (or_cases (is total y x) (list_any (is total y) xs) (sym (members y) ∙ there)) [
        | inl same ↦ subst P (sym (same-item y x same)) one
        | inr old ↦ member-All P xs y all old
      ])

  pub All-removed : (P : X → Type 0) (xs zs : List X) (x : X) → All P xs → ((y : X) → list_any (is total y) zs ≡ (not (is total y x) && list_any (is total y) xs)) → All P zs
  All-removed P xs zs x all members = All-members P zs (λ y there. member-All P xs y all (and_parts _ _ (sym (members y) ∙ there)).1)
