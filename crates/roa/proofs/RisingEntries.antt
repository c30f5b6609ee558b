-- Entries that rise: they have one order, and each is there once. Where not each is there once, one is there twice.
use Rattle.roa.proofs.Vocabulary.{◌≡◌, ℕ, zero, suc, ◌+◌, ◌≤◌, Bool, true, false, cond, List, [], ◌∷◌, inl, inr, refl, sym, ap, subst, ◌∙◌, Contains, arith, ◌⊎◌, ◌↔◌, IsPermutation, Less, AllByRecursion, count_by, cases_Bool, cases_lt, All-contains, Contains-append_right, Contains-permutation, IsPermutation-sym, sum_by-cons, Rises, entry_eq, entry_order}
use Rattle.std.specs.Cmp.{IsEquivalence, IsTotalOrder, both_tied, unsigned_ties}
use Rattle.std.specs.List.{IsDistinct}
use Rattle.std.specs.List.Sorted.{IsStrictlySortedBy}
use Rattle.std.specs.Ordering.{eq_by_cmp}
use Rattle.std.proofs.lemmas.Cmp.{eq_by_cmp_equiv, nat_cmp_total, on_total, then_total, tied_itself}
use Rattle.std.proofs.lemmas.Map.Keys.{IsDistinct-from_sorted, sorted_tail}
use Rattle.std.proofs.lemmas.Map.Views.{All-after_first}
use Rattle.addr.specs.declared.roa_prefix.RoaPrefix.{RoaPrefix as Entry}
use Rattle.addr.specs.steps.TotalOrders.{prefix_ties, prefix_total}
use Rattle.sorted_items.proofs.EachOnce.{rise-cons}

entry_total : IsTotalOrder entry_order
entry_total = then_total (on_total (λ (a : Entry). a.prefix) prefix_total) (on_total (λ (a : Entry). a.max) nat_cmp_total)

abbrev Rise : List Entry → Type 0
Rise es = IsStrictlySortedBy entry_order es

pub rise_is : (es : List Entry) → Rise es ↔ Rises es
unfolding IsStrictlySortedBy
rise_is [] = (λ _. tt, λ _. tt)
rise_is (a ∷ []) = (λ _. tt, λ _. (tt, tt))
rise_is (a ∷ b ∷ es) = (
  λ rising. (rising.0.0, (rise_is (b ∷ es)).0 rising.1),
  λ rising. rise-cons entry_total a b es rising.0 ((rise_is (b ∷ es)).1 rising.1),
)

-- ---- two rising lists of the same entries are equal

not_before_itself : (a : Entry) → entry_order a a ≡ Less → ⊥
not_before_itself a less = let tied = tied_itself entry_total a in absurd cc

before_each : (a e : Entry) (es : List Entry) → Rise (a ∷ es) → Contains es e → entry_order a e ≡ Less
before_each a e es rising there = All-contains (λ x. entry_order a x ≡ Less) es e (All-after_first entry_order a es rising) there

first_or_later : (a e : Entry) (es : List Entry) → Contains (a ∷ es) e → (a ≡ e) ⊎ Contains es e
first_or_later a e es (zero, below, is) = inl is
first_or_later a e es (suc k, below, is) = inr (k, omega arith, is)

same_first : (a b : Entry) (es ds : List Entry) → Rise (a ∷ es) → Rise (b ∷ ds) → (b ≡ a) ⊎ Contains ds a → (a ≡ b) ⊎ Contains es b → a ≡ b
same_first a b es ds one other (inl is) back = sym is
same_first a b es ds one other (inr has) (inl is) = is
same_first a b es ds one other (inr has) (inr back) =
    absurd (not_before_itself a (entry_total.trans a b a (before_each a b es one back) (before_each b a ds other has)))

-- what is behind the first in one is so in the other
behind : (a b e : Entry) (es ds : List Entry) → Rise (a ∷ es) → a ≡ b → Contains es e → (b ≡ e) ⊎ Contains ds e → Contains ds e
behind a b e es ds one first has (inl is) =
    absurd (not_before_itself a (subst (λ x. entry_order a x ≡ Less) (sym (first ∙ is)) (before_each a e es one has)))
behind a b e es ds one first has (inr there) = there

same_list : (es ds : List Entry) → Rise es → Rise ds
    → ((e : Entry) → Contains es e → Contains ds e) → ((e : Entry) → Contains ds e → Contains es e) → es ≡ ds
same_list [] [] one other to back = refl
same_list [] (b ∷ ds) one other to back = let none = (back b (0, omega arith, refl)).1 in absurd (omega arith)
same_list (a ∷ es) [] one other to back = let none = (to a (0, omega arith, refl)).1 in absurd (omega arith)
same_list (a ∷ es) (b ∷ ds) one other to back =
    let first : a ≡ b = same_first a b es ds one other (first_or_later b a ds (to a (0, omega arith, refl))) (first_or_later a b es (back b (0, omega arith, refl))) in
    let rest : es ≡ ds = same_list es ds (sorted_tail entry_order a es one) (sorted_tail entry_order b ds other)
    (λ e has. behind a b e es ds one first has (first_or_later b e ds (to e (Contains-append_right (a ∷ []) es e has))))
    (λ e has. behind b a e ds es other (sym first) has (first_or_later a e es (back e (Contains-append_right (b ∷ []) ds e has)))) in
    λ i. first i ∷ rest i

pub one_order : (es ds : List Entry) → IsPermutation es ds → Rises es → Rises ds → ds ≡ es
one_order es ds moved one other =
    same_list ds es ((rise_is ds).1 other) ((rise_is es).1 one)
    (λ e. Contains-permutation ds es e (IsPermutation-sym es ds moved)) (λ e. Contains-permutation es ds e moved)

-- ---- an entry is there once, or some entry is there twice

-- entries that tie are equal
by_ties : (P : (Entry → Entry → Bool) → Type 0) → P (eq_by_cmp entry_order) → P entry_eq
by_ties P = subst P (λ i a b. sym (both_tied _ _ _ _ (prefix_ties a.prefix b.prefix) (unsigned_ties a.max b.max)) i)

laws : IsEquivalence entry_eq
laws = by_ties IsEquivalence (eq_by_cmp_equiv entry_total)

module _ (e : Entry) where
  times : List Entry → ℕ
  times es = count_by (entry_eq e) es

  more : (a : Entry) (es : List Entry) (same : Bool) → entry_eq e a ≡ same → times (a ∷ es) ≡ cond same 1 0 + times es
  unfolding times
  more a es same is = sum_by-cons (λ x. cond (entry_eq e x) 1 0) a es ∙ ap (λ b. cond b 1 0 + times es) is

  none_there : (a : Entry) (es : List Entry) → entry_eq e a ≡ true → AllByRecursion (λ x. entry_eq a x ≡ false) es → times es ≡ 0
  unfolding times
  none_there a [] same apart = refl
  none_there a (x ∷ es) same apart = omega (arith, more x es false (laws.congr e a x same ∙ apart.0), none_there a es same apart.1)

  once : (es : List Entry) → IsDistinct entry_eq es → times es ≤ 1
  unfolding IsDistinct times
  once [] apart = omega arith
  once (a ∷ es) apart = elim (cases_Bool (entry_eq e a)) [
    | inl same ↦ omega (arith, more a es true same, none_there a es same apart.0)
    | inr other ↦ omega (arith, more a es false other, once es apart.1)
  ]

  pub at_most_once : (es : List Entry) → Rises es → count_by (entry_eq e) es ≤ 1
  unfolding times
  at_most_once es rising = once es (by_ties (λ same. IsDistinct same es) (IsDistinct-from_sorted entry_order es ((rise_is es).1 rising)))

  all_apart : (es : List Entry) → times es ≡ 0 → AllByRecursion (λ x. entry_eq e x ≡ false) es
  all_apart [] none = tt
  all_apart (a ∷ es) none = elim (cases_Bool (entry_eq e a)) [
    | inl same ↦ absurd (omega (arith, more a es true same, none))
    | inr other ↦ (other, all_apart es (omega (arith, more a es false other, none)))
  ]

twice : (es : List Entry) → (IsDistinct entry_eq es → ⊥) → (e : Entry) × (2 ≤ times e es)
unfolding IsDistinct
twice [] falls = absurd (falls tt)
twice (a ∷ es) falls = elim (cases_lt 0 (times a es)) [
  | inl some ↦ (a, omega (arith, more a a es true (laws.refl a), some))
  | inr none ↦
      let found = twice es (λ apart. falls (all_apart a es (omega (arith, none)), apart)) in
      (found.0, omega (arith, more found.0 a es (entry_eq found.0 a) refl, found.1))
]

pub is_repeated : (es : List Entry) → (IsDistinct (eq_by_cmp entry_order) es → ⊥) → (e : Entry) × (2 ≤ count_by (entry_eq e) es)
unfolding times
is_repeated es falls = twice es (by_ties (λ same. IsDistinct same es → ⊥) falls)
