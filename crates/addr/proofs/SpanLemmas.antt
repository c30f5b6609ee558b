-- Runs of addresses: what lists of maximal runs have, and how they grow.
use Rattle.addr.proofs.Vocabulary.{◌≡◌, ℕ, ◌+◌, ◌≤◌, ◌<◌, Bool, true, false, ◌&&◌, ◌||◌, nat_le, nat_lt, refl, arith, ◌↔◌, ◌⊎◌, IsTrue, inl, inr, List, [], ◌∷◌, ◌++◌, list_any, list_all, cases_Bool, and_parts, and_from, or_cases, or_left, or_right, false≢true, nat_tests, list_all-append, Any-from_list_any, list_any-from_Any, AllPass-from_list_all, list_all-from_AllPass, family_eq, Address, is_between, last_of, has_address, span_has, spans_have, family_lt, is_apart_below, AreMaximal, span_covers, span_meets, HaveAll, HaveSome, IsWithin, Family, V4, V6, Prefix, Span}
use Rattle.addr.proofs.Equality.{family_tells}
use Rattle.addr.proofs.AddressLemmas.{between_within, between_at, overlap_by_shared, shared, first-last}

-- whether an end is apart below a start
abbrev pub is_gap : Family → ℕ → Family → ℕ → Bool
is_gap f high g low = family_lt f g || (family_eq f g && nat_lt (high + 1) low)

-- what the test of the order means, for `grind`
pub family_lt_tells : (f g : Family) → ((family_lt f g ≡ true) × (f ≡ V4) × (g ≡ V6)) ⊎ ((family_lt f g ≡ false) × ((f ≡ g) ⊎ ((f ≡ V6) × (g ≡ V4))))
family_lt_tells V4 V4 = inr (refl, inl refl)
family_lt_tells V4 V6 = inl (refl, refl, refl)
family_lt_tells V6 V4 = inr (refl, inr (refl, refl))
family_lt_tells V6 V6 = inr (refl, inl refl)

pub gap_trans : (f g h : Family) (high low end start : ℕ) → low ≤ end → is_gap f high g low ≡ true → is_gap g end h start ≡ true → is_gap f high h start ≡ true
gap_trans f g h high low end start le one two = grind (arith, nat_tests, family_tells, family_lt_tells)

pub gap_wider : (f g : Family) (high high' low low' : ℕ) → high' ≤ high → low ≤ low' → is_gap f high g low ≡ true → is_gap f high' g low' ≡ true
gap_wider f g high high' low low' a b gap = grind (arith, nat_tests)

-- runs apart below each other by way of a third
pub apart_trans : (s t u : Span) → is_apart_below s t ≡ true → is_apart_below t u ≡ true → is_apart_below s u ≡ true
apart_trans s t u = gap_trans s.family t.family u.family s.hi t.lo t.hi u.lo t.ordered

-- what is apart below the whole is apart below a part, and the other way round
pub apart_to_part : (s whole part : Span) → IsWithin part whole → is_apart_below s whole ≡ true → is_apart_below s part ≡ true
apart_to_part s whole part inside gap =
    rw inside.family (gap_wider s.family whole.family s.hi s.hi whole.lo part.lo (omega arith) inside.starts gap)

pub apart_from_part : (s whole part : Span) → IsWithin part whole → is_apart_below whole s ≡ true → is_apart_below part s ≡ true
apart_from_part s whole part inside gap =
    rw inside.family (gap_wider whole.family s.family whole.hi part.hi s.lo s.lo inside.ends (omega arith) gap)

-- each of xs is apart below y, and so is each below all of ys
abbrev pub all_below : List Span → Span → Bool
all_below xs y = list_all (λ s. is_apart_below s y) xs

abbrev pub all_above : Span → List Span → Bool
all_above s ys = list_all (λ t. is_apart_below s t) ys

abbrev pub AllApart : List Span → List Span → Type 0
AllApart xs ys = list_all (λ s. all_above s ys) xs ≡ true

pub maximal_append : (xs ys : List Span) → AreMaximal xs → AreMaximal ys → AllApart xs ys → AreMaximal (xs ++ ys)
maximal_append [] ys mx my apart = my
maximal_append (x ∷ xs) ys mx my apart =
    let both = and_parts (all_above x ys) (list_all (λ s. all_above s ys) xs) apart in
    (rw (list_all-append (λ t. is_apart_below x t) xs ys) (and_from _ _ mx.0 both.0), maximal_append xs ys mx.1 my both.1)

-- what each passes, each passes that follows from it
pub all_weaker : {X : Type 0} (p q : X → Bool) (xs : List X) → ((x : X) → p x ≡ true → q x ≡ true) → list_all p xs ≡ true → list_all q xs ≡ true
all_weaker p q xs each all = list_all-from_AllPass q xs (λ k d within. each _ (AllPass-from_list_all p xs all k d within))

-- an address of runs above s lies past s, with a gap
pub gap_to_had : (s : Span) (rest : List Span) (a : Address) → all_above s rest ≡ true → spans_have rest a ≡ true → is_gap s.family s.hi a.family a.number ≡ true
gap_to_had s [] a above had = absurd (false≢true had)
gap_to_had s (t ∷ rest) a above had =
    let both = and_parts (is_apart_below s t) (all_above s rest) above in
    elim (or_cases (span_has t a) (spans_have rest a) had) [
      | inl here ↦ gap_at s.family t.family a.family s.hi t.lo t.hi a.number both.0 here
      | inr later ↦ gap_to_had s rest a both.1 later
    ]
  where
    gap_at : (f g h : Family) (high low end n : ℕ) → is_gap f high g low ≡ true → is_between g low end (record { family = h; number = n }) ≡ true → is_gap f high h n ≡ true
    gap_at f g h high low end n gap here = grind (arith, nat_tests, family_tells, family_lt_tells)

-- an address past the end is in no run that ends there
pub past_not_had : (f g h : Family) (low high start end n : ℕ) → is_gap f high g start ≡ true → is_between g start end (record { family = h; number = n }) ≡ true → is_between f low high (record { family = h; number = n }) ≡ false
past_not_had f g h low high start end n gap there = grind (arith, nat_tests, family_tells, family_lt_tells)

pub covered_has : (spans : List Span) (p : Prefix) → list_any (λ s. span_covers s p) spans ≡ true → HaveAll spans p
covered_has spans p covered a there =
    let one = Any-from_list_any (λ s. span_covers s p) spans covered in
    list_any-from_Any (λ s. span_has s a) spans (one.0, one.1, one.2, one.3, between_within one.1.family p.family a.family one.1.lo one.1.hi p.first (last_of p) a.number one.4 there)

-- a run that has a prefix's first address and not the whole of it ends within it
pub cut_short : (f g : Family) (low high first end : ℕ) → is_between f low high (record { family = g; number = first }) ≡ true → family_eq f g && (nat_le low first && nat_le end high) ≡ false → (f ≡ g) × (first ≤ high) × (high < end)
cut_short f g low high first end here short = (grind (arith, nat_tests, family_tells), grind (arith, nat_tests), grind (arith, nat_tests))

-- no run reaches to the address behind its end, and none that is apart above it starts there
pub no_gap : (f : Family) (high : ℕ) → is_gap f high f (high + 1) ≡ true → ⊥
no_gap f high gap = grind (arith, nat_tests, family_lt_tells)

pub not_past_end : (f : Family) (low high : ℕ) → is_between f low high (record { family = f; number = high + 1 }) ≡ true → ⊥
not_past_end f low high here = grind (arith, nat_tests)

-- the address behind the end of the first run, where that run ends within the prefix
pub next_not_had : (s : Span) (rest : List Span) (p : Prefix) → all_above s rest ≡ true → HaveAll (s ∷ rest) p → s.family ≡ p.family → p.first ≤ s.hi → s.hi < last_of p → ⊥
next_not_had s rest p above all same first ends =
    let next : Address = record { family = s.family; number = s.hi + 1 } in
    let inside : has_address p next ≡ true = rw same (between_at p.family p.first (last_of p) (s.hi + 1) (omega arith) (omega arith)) in
    elim (or_cases (span_has s next) (spans_have rest next) (all next inside)) [
      | inl here ↦ not_past_end s.family s.lo s.hi here
      | inr later ↦ no_gap s.family s.hi (gap_to_had s rest next above later)
    ]

-- what lies in a prefix whose first address is past a run lies past the run too
pub prefix_past : (s : Span) (p : Prefix) (a : Address) → is_gap s.family s.hi p.family p.first ≡ true → has_address p a ≡ true → span_has s a ≡ false
prefix_past s p a gap there = past_not_had s.family p.family a.family s.lo s.hi p.first (last_of p) a.number gap there

pub or_second : (x y : Bool) → x ≡ false → (x || y) ≡ true → y ≡ true
or_second x y first either = grind arith

pub had_covered : (spans : List Span) (p : Prefix) → AreMaximal spans → HaveAll spans p → list_any (λ s. span_covers s p) spans ≡ true
had_covered [] p maximal all = absurd (false≢true (all (record { family = p.family; number = p.first }) (between_at p.family p.first (last_of p) p.first (omega arith) (first-last p))))
had_covered (s ∷ rest) p maximal all =
    elim (cases_Bool (span_covers s p)) [
      | inl covers ↦ or_left (span_covers s p) (list_any (λ t. span_covers t p) rest) covers
      | inr short ↦ elim (or_cases (span_has s start) (spans_have rest start) (all start starts)) [
        | inl here ↦ let ends = cut_short s.family p.family s.lo s.hi p.first (last_of p) here short in
            absurd (next_not_had s rest p maximal.0 all ends.0 ends.1 ends.2)
        | inr later ↦ or_right (span_covers s p) (list_any (λ t. span_covers t p) rest)
            (had_covered rest p maximal.1 (λ a there. or_second (span_has s a) (spans_have rest a) (prefix_past s p a (gap_to_had s rest start maximal.0 later) there) (all a there)))
      ]
    ]
  where
    start : Address
    start = record { family = p.family; number = p.first }

    starts : has_address p start ≡ true
    starts = between_at p.family p.first (last_of p) p.first (omega arith) (first-last p)

-- every address of the prefix is in the set exactly where one run covers it
pub covered_iff : (spans : List Span) (p : Prefix) → AreMaximal spans → IsTrue (list_any (λ s. span_covers s p) spans) ↔ HaveAll spans p
covered_iff spans p maximal = (covered_has spans p, had_covered spans p maximal)

pub met_some : (spans : List Span) (p : Prefix) → list_any (λ s. span_meets s p) spans ≡ true → HaveSome spans p
met_some spans p meets =
    let one = Any-from_list_any (λ s. span_meets s p) spans meets in
    let both = shared one.1.family p.family one.1.lo one.1.hi p.first (last_of p) one.1.ordered (first-last p) one.4 in
    (both.0, both.2, list_any-from_Any (λ s. span_has s both.0) spans (one.0, one.1, one.2, one.3, both.1))

pub some_met : (spans : List Span) (p : Prefix) (a : Address) → has_address p a ≡ true → spans_have spans a ≡ true → list_any (λ s. span_meets s p) spans ≡ true
some_met spans p a there had =
    let one = Any-from_list_any (λ s. span_has s a) spans had in
    list_any-from_Any (λ s. span_meets s p) spans (one.0, one.1, one.2, one.3, overlap_by_shared one.1.family p.family a.family one.1.lo one.1.hi p.first (last_of p) a.number one.4 there)

-- some address of the prefix is in the set exactly where one run meets it
pub met_iff : (spans : List Span) (p : Prefix) → IsTrue (list_any (λ s. span_meets s p) spans) ↔ HaveSome spans p
met_iff spans p = (met_some spans p, λ shared. some_met spans p shared.0 shared.1 shared.2)
