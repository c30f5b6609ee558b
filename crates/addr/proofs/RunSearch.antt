-- Maximal runs rise, so a search by halves finds a run among them, and those that end before a prefix.
use Rattle.addr.proofs.Vocabulary.{◌≡◌, ℕ, zero, suc, ◌+◌, ◌≤◌, ◌<◌, Bool, true, false, ◌&&◌, ◌||◌, nat_le, nat_lt, List, [], ◌∷◌, length, get_or, drop, refl, sym, ap, ◌∙◌, subst, arith, inl, inr, Ordering, Result, Ok, Err, is_ok, IsTotalOrder, nat_cmp_total, on_total, then_total, IsAntisymmetric, nat_cmp-IsAntisymmetric, AllByRecursion, list_all, list_any, slice_get, option_map_or, nat_cmp, is_lt, ordering_index, ordering_reverse, ordering_then, Less, Equal, Greater, cases_Bool, cases_lt, and_parts, false≢true, nat_tests, tied_itself, list_any_none, list_any_at, searchable_from_sorted, AllPass-from_list_all, last_of, family_eq, family_cmp, family_lt, is_apart_below, is_before, span_eq, is_one_of, same_span, span_covers, span_meets, AreMaximal, Family, V4, V6, Prefix, Span, family_total}
use Rattle.std.specs.List.Sorted.{IsBinarySearchResult, IsNonDecreasingBy, IsPartitionedBy, IsPartitionPoint, IsSearchInRange, IsStrictlySortedBy}
use Rattle.std.proofs.lemmas.Map.Keys.{Less-from_sorted}
use Rattle.addr.specs.contracts.span.SpanOrd.TheImpl as SpanOrd
use Rattle.addr.proofs.AddressLemmas.{first-last}
use Rattle.addr.proofs.Equality.{equal_span, span_itself, family_tells}
use Rattle.addr.proofs.OrderLemmas.{exact_family, derived_family, both_equal}
use Rattle.addr.proofs.SpanLemmas.{is_gap, family_lt_tells}

-- by family, first and last address
abbrev span_cmp : Span → Span → Ordering
span_cmp s t = ordering_then (family_cmp s.family t.family) (ordering_then (nat_cmp s.lo t.lo) (nat_cmp s.hi t.hi))

-- the derived `cmp` is this order
abbrev pub derived_span_cmp : Span → Span → Ordering
derived_span_cmp = SpanOrd.ghosts.cmp

derived : (s t : Span) → derived_span_cmp s t ≡ span_cmp s t
derived s t = ap (λ (o : Ordering). ordering_then o (ordering_then (nat_cmp s.lo t.lo) (nat_cmp s.hi t.hi))) (derived_family s.family t.family)

span_total : IsTotalOrder span_cmp
span_total = then_total (on_total (λ s. s.family) family_total) (then_total (on_total (λ s. s.lo) nat_cmp_total) (on_total (λ s. s.hi) nat_cmp_total))

exact_span : IsAntisymmetric span_cmp
exact_span s t e =
    let family = both_equal _ _ e in
    let ends = both_equal _ _ family.1 in
    same_span s t (exact_family _ _ family.0) (nat_cmp-IsAntisymmetric _ _ ends.0) (nat_cmp-IsAntisymmetric _ _ ends.1)

-- runs that are maximal rise in this order
below_less : (s t : Span) → is_apart_below s t ≡ true → span_cmp s t ≡ Less
below_less s t = go s.family t.family s.lo s.hi t.lo t.hi s.ordered
  where
    go : (f g : Family) (lo hi start end : ℕ) → lo ≤ hi → is_gap f hi g start ≡ true → ordering_then (family_cmp f g) (ordering_then (nat_cmp lo start) (nat_cmp hi end)) ≡ Less
    go V4 V4 lo hi start end ordered gap = let lower : nat_cmp lo start ≡ Less = grind (arith, nat_tests) in ap (λ o. ordering_then o (nat_cmp hi end)) lower
    go V4 V6 lo hi start end ordered gap = refl
    go V6 V4 lo hi start end ordered gap = absurd (false≢true gap)
    go V6 V6 lo hi start end ordered gap = let lower : nat_cmp lo start ≡ Less = grind (arith, nat_tests) in ap (λ o. ordering_then o (nat_cmp hi end)) lower

rising : (runs : List Span) → AreMaximal runs → IsStrictlySortedBy span_cmp runs
unfolding IsStrictlySortedBy
rising [] maximal = tt
rising (s ∷ rest) maximal = (above rest maximal.0, rising rest maximal.1)
  where
    above : (ts : List Span) → list_all (is_apart_below s) ts ≡ true → AllByRecursion (λ t. span_cmp s t ≡ Less) ts
    above [] all = tt
    above (t ∷ ts) all = let both = and_parts (is_apart_below s t) (list_all (is_apart_below s) ts) all in (below_less s t both.0, above ts both.1)

searchable : (runs : List Span) (s : Span) → AreMaximal runs → IsNonDecreasingBy (λ t. ordering_index (span_cmp t s)) runs
searchable runs s maximal =
    searchable_from_sorted span_total (λ t. t) runs s (λ k d low high.
    ap is_lt (span_total.antisymm (get_or runs (k + 1) d) (get_or runs k d) ∙ ap ordering_reverse (Less-from_sorted span_cmp runs k (k + 1) d (rising runs maximal) (omega arith) high)))

unlike : (s t : Span) (o : Ordering) → span_cmp t s ≡ o → (Equal ≡ o → ⊥) → span_eq s t ≡ false
unlike s t o is differs =
    elim (cases_Bool (span_eq s t)) [
      | inl same ↦ absurd (differs (sym (tied_itself span_total s) ∙ ap (λ u. span_cmp u s) (equal_span s t same) ∙ is))
      | inr f ↦ f
    ]

-- what a search of the runs finds
pub search-tells : (runs : List Span) (s : Span) (r : Result ℕ ℕ) → AreMaximal runs → IsSearchInRange r (length runs) → IsBinarySearchResult (λ t. derived_span_cmp t s) runs r
    → is_ok r ≡ is_one_of runs s
search-tells runs s r maximal range result = go r range (subst (λ (c : Span → Ordering). IsBinarySearchResult c runs r) (λ i t. derived t s i) result)
  where
    go : (r : Result ℕ ℕ) → IsSearchInRange r (length runs) → IsBinarySearchResult (λ t. span_cmp t s) runs r → is_ok r ≡ is_one_of runs s
    go (Ok at) within tied = sym (list_any_at (span_eq s) runs at s within (ap (span_eq s) (exact_span (get_or runs at s) s (tied s)) ∙ span_itself s))
    go (Err at) within parted =
        let place = parted (searchable runs s maximal) in
        sym (list_any_none (span_eq s) runs (λ k d below. elim (cases_lt k at) [
          | inl before ↦ unlike s (get_or runs k d) Less (place.0 k d (omega arith) before) (λ e. cc)
          | inr after ↦ unlike s (get_or runs k d) Greater (place.1 k d after below) (λ e. cc)
        ]))

-- whether an end lies before a start
abbrev is_below : Family → ℕ → Family → ℕ → Bool
is_below f high g first = family_lt f g || (family_eq f g && nat_lt high first)

-- a run that is apart below one before a prefix is before it too
gap_below : (f g h : Family) (high low end first : ℕ) → low ≤ end → is_gap f high g low ≡ true → is_below g end h first ≡ true → is_below f high h first ≡ true
gap_below f g h high low end first ordered gap below = grind (arith, nat_tests, family_tells, family_lt_tells)

-- those before a prefix are at the front
pub before-partitioned : (p : Prefix) (runs : List Span) → AreMaximal runs → IsPartitionedBy (λ s. is_before s p) runs
before-partitioned p [] maximal i j d le within last = absurd (omega arith)
before-partitioned p (s ∷ rest) maximal i zero d le within last = let first : i ≡ 0 = omega arith in rw first last
before-partitioned p (s ∷ rest) maximal zero (suc j) d le within last =
    let t = get_or rest j d in
    gap_below s.family t.family p.family s.hi t.lo t.hi p.first t.ordered (AllPass-from_list_all (is_apart_below s) rest maximal.0 j d (omega arith)) last
before-partitioned p (s ∷ rest) maximal (suc i) (suc j) d le within last = before-partitioned p rest maximal.1 i j d (omega arith) (omega arith) last

-- the place behind those before a prefix
abbrev pub IsPlace : Prefix → List Span → ℕ → Type 0
IsPlace p runs n = IsPartitionPoint (λ s. is_before s p ≡ true) (λ s. is_before s p ≡ false) runs n

-- where no run before the prefix passes, and none past one that is not before it and fails, the run at the place passes if any does
module _ (p : Prefix) (test : ℕ → ℕ → Bool) (before : (lo hi : ℕ) → hi < p.first → test lo hi ≡ false) (past : (lo hi start end : ℕ) → lo ≤ hi → p.first ≤ hi → hi < start → test lo hi ≡ false → test start end ≡ false) where
  abbrev passes : Span → Bool
  passes s = family_eq s.family p.family && test s.lo s.hi

  below_fails : (f g : Family) (lo hi : ℕ) → is_below f hi g p.first ≡ true → (family_eq f g && test lo hi) ≡ false
  below_fails f g lo hi below = grind (arith, nat_tests, family_tells, family_lt_tells, before lo hi)

  past_fails : (f g h : Family) (lo hi start end : ℕ) → lo ≤ hi → is_below f hi h p.first ≡ false → is_gap f hi g start ≡ true → (family_eq f h && test lo hi) ≡ false → (family_eq g h && test start end) ≡ false
  past_fails f g h lo hi start end ordered reaches gap fails = grind (arith, nat_tests, family_tells, family_lt_tells, past lo hi start end)

  place-tells : (runs : List Span) (n : ℕ) → AreMaximal runs → IsPlace p runs n → option_map_or passes (slice_get (drop n runs) 0) false ≡ list_any passes runs
  place-tells [] zero maximal place = refl
  place-tells [] (suc n) maximal place = refl
  place-tells (s ∷ rest) zero maximal place = elim (cases_Bool (passes s)) [
    | inl is ↦ rw is refl
    | inr fails ↦ rw fails (sym (list_any_none passes rest (λ k d within.
        let t = get_or rest k d in
        past_fails s.family t.family p.family s.lo s.hi t.lo t.hi s.ordered (place.1 0 s (omega arith) (omega arith)) (AllPass-from_list_all (is_apart_below s) rest maximal.0 k d within) fails)))
  ]
  place-tells (s ∷ rest) (suc n) maximal place =
      rw (below_fails s.family p.family s.lo s.hi (place.0 0 s (omega arith) (omega arith)))
      (place-tells rest n maximal.1 (λ k d low high. place.0 (suc k) d (omega arith) (omega arith), λ k d low high. place.1 (suc k) d (omega arith) (omega arith)))

-- a run that covers the prefix is the one at the place
pub covered-at_place : (p : Prefix) (runs : List Span) (n : ℕ) → AreMaximal runs → IsPlace p runs n → option_map_or (λ s. span_covers s p) (slice_get (drop n runs) 0) false ≡ list_any (λ s. span_covers s p) runs
covered-at_place p = place-tells p (λ lo hi. nat_le lo p.first && nat_le (last_of p) hi)
    (λ lo hi below. let ends = first-last p in grind (arith, nat_tests))
    (λ lo hi start end ordered reaches gap fails. grind (arith, nat_tests))

-- where a run meets the prefix, so does the one at the place
pub met-at_place : (p : Prefix) (runs : List Span) (n : ℕ) → AreMaximal runs → IsPlace p runs n → option_map_or (λ s. span_meets s p) (slice_get (drop n runs) 0) false ≡ list_any (λ s. span_meets s p) runs
met-at_place p = place-tells p (λ lo hi. nat_le lo (last_of p) && nat_le p.first hi)
    (λ lo hi below. grind (arith, nat_tests))
    (λ lo hi start end ordered reaches gap fails. grind (arith, nat_tests))
