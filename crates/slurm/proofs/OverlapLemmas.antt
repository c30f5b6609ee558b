-- The test of an overlap decides it, and is that of the filters and of the assertions.
use Rattle.slurm.proofs.Vocabulary.{◌≡◌, Bool, true, false, ◌||◌, List, [], ◌∷◌, map, Some, refl, sym, ap, ◌∙◌, inl, inr, ◌↔◌, IsTrue, or_cases, or_left, or_right, Any-from_list_any, list_any-from_Any, list_any-append, filter_map, list_any, overlaps, Prefix, Vrp, overlaps_some, Exceptions, filter_prefix, named_prefixes, overlap, shares, Names, Overlap, Filter, Under, By, Both}
use Rattle.slurm.specs.steps.Overlap.{filter_passes}

-- ---- by entries

any-named_by_filters : (test : Prefix → Bool) (filters : List Filter) → list_any test (filter_map filter_prefix filters) ≡ list_any (filter_passes test) filters
any-named_by_filters test [] = refl
any-named_by_filters test (Under p ∷ rest) = ap (λ b. test p || b) (any-named_by_filters test rest)
any-named_by_filters test (By asn ∷ rest) = any-named_by_filters test rest
any-named_by_filters test (Both p asn ∷ rest) = ap (λ b. test p || b) (any-named_by_filters test rest)

any-named_by_assertions : (test : Prefix → Bool) (assertions : List Vrp) → list_any test (map (λ v. v.prefix) assertions) ≡ list_any (λ v. test v.prefix) assertions
any-named_by_assertions test [] = refl
any-named_by_assertions test (v ∷ rest) = ap (λ b. test v.prefix || b) (any-named_by_assertions test rest)

-- a test of all named prefixes is one of the filters and one of the assertions
pub any-named : (test : Prefix → Bool) (file : Exceptions) → list_any test (named_prefixes file) ≡ (list_any (filter_passes test) file.filters || list_any (λ v. test v.prefix) file.assertions)
any-named test file =
    list_any-append test (filter_map filter_prefix file.filters) (map (λ v. v.prefix) file.assertions)
    ∙ ap (λ b. b || list_any test (map (λ v. v.prefix) file.assertions)) (any-named_by_filters test file.filters)
    ∙ ap (λ b. list_any (filter_passes test) file.filters || b) (any-named_by_assertions test file.assertions)

-- what the test of the filters, and after it that of the assertions, answers
pub named-by_filters : (test : Prefix → Bool) (file : Exceptions) (filters : List Filter) (some : Bool) → some ≡ true → some ≡ list_any (filter_passes test) filters → filters ≡ file.filters → some ≡ list_any test (named_prefixes file)
named-by_filters test file filters some is answer same =
    let passes : list_any (filter_passes test) file.filters ≡ true = ap (list_any (filter_passes test)) (sym same) ∙ sym answer ∙ is in
    is ∙ sym (any-named test file ∙ or_left _ _ passes)

pub named-by_assertions : (test : Prefix → Bool) (file : Exceptions) (filters : List Filter) (assertions : List Vrp) (some last : Bool) → some ≡ false → some ≡ list_any (filter_passes test) filters → filters ≡ file.filters
    → last ≡ list_any (λ v. test v.prefix) assertions → assertions ≡ file.assertions → last ≡ list_any test (named_prefixes file)
named-by_assertions test file filters assertions some last not answer same answer_last same_last =
    let passes : list_any (filter_passes test) file.filters ≡ false = ap (list_any (filter_passes test)) (sym same) ∙ sym answer ∙ not in
    answer_last
    ∙ ap (list_any (λ v. test v.prefix)) same_last
    ∙ sym (any-named test file ∙ ap (λ b. b || list_any (λ v. test v.prefix) file.assertions) passes)

-- ---- by prefixes

named_by_filter : (test : Prefix → Bool) (f : Filter) → filter_passes test f ≡ true → (p : Prefix) × (filter_prefix f ≡ Some p) × (test p ≡ true)
named_by_filter test (Under p) h = (p, refl, h)
named_by_filter test (By asn) h = absurd cc
named_by_filter test (Both p asn) h = (p, refl, h)

passes-named : (test : Prefix → Bool) (f : Filter) (p : Prefix) → filter_prefix f ≡ Some p → test p ≡ true → filter_passes test f ≡ true
passes-named test (Under q) p is h = cc
passes-named test (By asn) p is h = absurd cc
passes-named test (Both q asn) p is h = cc

-- a prefix that the file names passes the test
pub some_named : (test : Prefix → Bool) (file : Exceptions) → list_any test (named_prefixes file) ≡ true → (p : Prefix) × Names file p × (test p ≡ true)
some_named test file some =
    elim (or_cases (list_any (filter_passes test) file.filters) (list_any (λ v. test v.prefix) file.assertions) (sym (any-named test file) ∙ some)) [
      | inl by_filter ↦
          let one = Any-from_list_any (filter_passes test) file.filters by_filter in
          let names = named_by_filter test one.1 one.4 in
          (names.0, inl (one.0, one.1, one.2, one.3, names.1), names.2)
      | inr by_assertion ↦
          let one = Any-from_list_any (λ v. test v.prefix) file.assertions by_assertion in
          (one.1.prefix, inr (one.0, one.1, one.2, one.3, refl), one.4)
    ]

pub any_named_at : (test : Prefix → Bool) (file : Exceptions) (p : Prefix) → Names file p → test p ≡ true → list_any test (named_prefixes file) ≡ true
any_named_at test file p (inl one) h =
    any-named test file
    ∙ or_left _ _ (list_any-from_Any (filter_passes test) file.filters (one.0, one.1, one.2, one.3, passes-named test one.1 p one.4 h))
any_named_at test file p (inr one) h =
    any-named test file
    ∙ or_right (list_any (filter_passes test) file.filters) _ (list_any-from_Any (λ v. test v.prefix) file.assertions (one.0, one.1, one.2, one.3, ap test one.4 ∙ h))

pub overlap_decides : (one other : Exceptions) → IsTrue (overlap one other) ↔ Overlap one other
overlap_decides one other = (
  λ some.
      let first = some_named (λ p. shares other p) one some in
      let second = some_named (λ q. overlaps first.0 q) other first.2 in
      (first.0, second.0, first.1, second.1, (overlaps_some first.0 second.0).0 second.2),
  λ both.
      let shared = any_named_at (λ q. overlaps both.0 q) other both.1 both.3 ((overlaps_some both.0 both.1).1 both.4) in
      any_named_at (λ p. shares other p) one both.0 both.2 shared,
)
