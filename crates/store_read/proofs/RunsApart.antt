-- Where runs are apart, the last run that begins at or before an address decides what is held from there on.
use Rattle.store_read.proofs.Vocabulary.{◌≡◌, ◌⊎◌, inl, inr, ◌↔◌, ℕ, ◌+◌, ◌≤◌, ◌&&◌, true, List, [], ◌∷◌, nat_le, Option, Some, None, refl, sym, ap, subst, ◌∙◌, arith, cases_lt, and_parts, and_from, or_cases, or_left, or_right, false≢true, nat_tests, Has, contains_had, has_contained, some_from, some_has, test_has, Address, last_of, span_has, span_meets, spans_have, is_apart_below, is_apart, AreApart, HaveAll, Prefix, Span, between_at, between_within, first-last, overlap_ends, equal_family, same_family, is_gap, gap_wider, no_gap, Rows, AllRows, items_if_any, AreRunsApart, HasRun, MeetsSome, IsRunBelow, IsLastBelow}

-- ---- two runs of one list

-- they are one run or apart
one_or_apart : (runs : List Span) (s t : Span) → AreApart runs → Has runs s → Has runs t → (s ≡ t) ⊎ (is_apart s t ≡ true)
one_or_apart [] s t apart in_s in_t = absurd in_s
one_or_apart (u ∷ rest) s t apart (inl one) (inl other) = inl (one ∙ sym other)
one_or_apart (u ∷ rest) s t apart (inl one) (inr other) = inr (subst (λ v. is_apart v t ≡ true) (sym one) (test_has (is_apart u) rest t apart.0 other))
one_or_apart (u ∷ rest) s t apart (inr one) (inl other) =
    elim (or_cases _ _ (test_has (is_apart u) rest s apart.0 one)) [
      | inl below ↦ inr (subst (λ v. is_apart s v ≡ true) (sym other) (or_right (is_apart_below s u) _ below))
      | inr above ↦ inr (subst (λ v. is_apart s v ≡ true) (sym other) (or_left _ (is_apart_below u s) above))
    ]
one_or_apart (u ∷ rest) s t apart (inr one) (inr other) = one_or_apart rest s t apart.1 one other

near : (s t : Span) → s.family ≡ t.family → t.lo ≤ s.hi + 1 → is_apart_below s t ≡ true → ⊥
near s t family close gap =
    no_gap s.family s.hi
    (gap_wider s.family s.family s.hi s.hi t.lo (s.hi + 1) (omega arith) close (subst (λ f. is_gap s.family s.hi f t.lo ≡ true) (sym family) gap))

-- what an address of a run says of its ends
within_ends : (s : Span) (a : Address) → span_has s a ≡ true → (s.family ≡ a.family) × (s.lo ≤ a.number) × (a.number ≤ s.hi)
within_ends s a has =
    let parts = and_parts _ (nat_le s.lo a.number && nat_le a.number s.hi) has in
    let ends = parts.1 in
    (same_family s.family a.family parts.0, grind (arith, nat_tests), grind (arith, nat_tests))

-- the runs of a holder; none where it is not registered
abbrev pub runs_of : AllRows → List ℕ → List Span
runs_of rows h = items_if_any (λ r. r.holdings) (rows.of_holder h)

-- an address that a holder holds is in a run of it
held_run : (rows : AllRows) (h : List ℕ) (a : Address) → spans_have (runs_of rows h) a ≡ true → (s : Span) × HasRun rows h s × (span_has s a ≡ true)
held_run rows h a = go (rows.of_holder h) refl
  where
    go : (o : Option Rows) → rows.of_holder h ≡ o → spans_have (items_if_any (λ r. r.holdings) o) a ≡ true → (s : Span) × HasRun rows h s × (span_has s a ≡ true)
    go None is has = absurd (false≢true has)
    go (Some r) is has =
        let run = some_has (λ s. span_has s a) r.holdings has in
        (run.0, (r, is, contains_had r.holdings run.0 run.1), run.2)

run_held : (rows : AllRows) (h : List ℕ) (s : Span) (a : Address) → HasRun rows h s → span_has s a ≡ true → spans_have (runs_of rows h) a ≡ true
run_held rows h s a run has =
    subst (λ o. spans_have (items_if_any (λ r. r.holdings) o) a ≡ true) (sym run.1)
    (some_from (λ s. span_has s a) run.0.holdings s (has_contained run.0.holdings s run.2) has)

-- a run from the first address or before it to the last one or beyond has them all, whatever the other runs are
pub held_within : (rows : AllRows) (p : Prefix) (h : List ℕ) (s : Span) → IsRunBelow rows p.family p.first h s → last_of p ≤ s.hi → HaveAll (runs_of rows h) p
held_within rows p h s below long a there =
    let begins = below.begins in
    let inside = and_from _ _ (equal_family s.family p.family below.family) (and_from (nat_le s.lo p.first) _ (grind (arith, nat_tests)) (grind (arith, nat_tests))) in
    run_held rows h s a below.held (between_within s.family p.family a.family s.lo s.hi p.first (last_of p) a.number inside there)

module _ (rows : AllRows) (apart : AreRunsApart rows) where
  -- two runs of one holder that share an address or are next to each other are one run
  one_of_holder : (h : List ℕ) (s t : Span) → HasRun rows h s → HasRun rows h t → s.family ≡ t.family → t.lo ≤ s.hi + 1 → s.lo ≤ t.hi + 1 → s ≡ t
  one_of_holder h s t own other family below above =
      let same : other.0 ≡ own.0 = cc in
      let there = subst (λ (r : Rows). Has r.holdings t) same (has_contained other.0.holdings t other.2) in
      elim (one_or_apart own.0.holdings s t (apart.each h own.0 own.1) (has_contained own.0.holdings s own.2) there) [
        | inl one ↦ one
        | inr gap ↦ absurd (elim (or_cases _ _ gap) [ inl first ↦ near s t family below first | inr later ↦ near t s (sym family) above later ])
      ]

  -- a run that begins within another is that one
  one_run : (h k : List ℕ) (s t : Span) → HasRun rows h s → HasRun rows k t → s.family ≡ t.family → s.lo ≤ t.lo → t.lo ≤ s.hi → (h ≡ k) × (s ≡ t)
  one_run h k s t own other family below above =
      let begin : Address = record { family = s.family; number = t.lo } in
      let begins = subst (λ f. span_has t (record { family = f; number = t.lo }) ≡ true) (sym family) (between_at t.family t.lo t.hi t.lo (omega arith) t.ordered) in
      let same = apart.once h k s t begin own other (between_at s.family s.lo s.hi t.lo below above) begins in
      (same, one_of_holder h s t own (subst (λ x. HasRun rows x t) (sym same) other) family (omega arith) (omega (arith, t.ordered)))

  module _ (p : Prefix) where
    -- ---- whether a holder holds every address of the prefix

    -- some run of the holder has the first address
    first_held : (h : List ℕ) → HaveAll (runs_of rows h) p → (s : Span) × IsRunBelow rows p.family p.first h s × (p.first ≤ s.hi)
    first_held h all =
        let run = held_run rows h (record { family = p.family; number = p.first }) (all _ (between_at p.family p.first (last_of p) p.first (omega arith) (first-last p))) in
        let ends = within_ends run.0 _ run.2 in
        (run.0, record { held = run.1; family = ends.0; begins = ends.1 }, ends.2)

    pub none_held : (h : List ℕ) → ((k : List ℕ) (t : Span) → ¬ IsRunBelow rows p.family p.first k t) → ¬ HaveAll (runs_of rows h) p
    none_held h none all = let first = first_held h all in none h first.0 first.1

    -- the run of the holder that has the first address has the last one
    last_held : (h : List ℕ) (s : Span) → HaveAll (runs_of rows h) p → HasRun rows h s → s.family ≡ p.family → p.first ≤ s.hi → last_of p ≤ s.hi
    last_held h s all own family first = elim (cases_lt s.hi (last_of p)) [
      | inl short ↦ absurd (
          let next = held_run rows h (record { family = p.family; number = s.hi + 1 }) (all _ (between_at p.family p.first (last_of p) (s.hi + 1) (omega arith) (omega arith))) in
          let ends = within_ends next.0 _ next.2 in
          let one = one_of_holder h s next.0 own next.1 (family ∙ sym ends.0) ends.1 (omega (arith, s.ordered, ends.2)) in
          let hi = ap (λ (x : Span). x.hi) one in
          omega (arith, hi, ends.2))
      | inr long ↦ long
    ]

    -- the last run has them
    pub held_by_last : (h k : List ℕ) (t : Span) → IsLastBelow rows p.family p.first k t → HaveAll (runs_of rows h) p → (k ≡ h) × (last_of p ≤ t.hi)
    held_by_last h k t last all =
        let first = first_held h all in
        let s = first.0 in
        let begins = last.is.begins in
        let later = last.last h s first.1 in
        let one = one_run h k s t first.1.held last.is.held (first.1.family ∙ sym last.is.family) later (omega (arith, begins, first.2)) in
        (sym one.0, subst (λ (x : Span). last_of p ≤ x.hi) one.1 (last_held h s all first.1.held first.1.family first.2))

    -- ---- whether some holder holds an address of the prefix

    -- a run that shares an address with the prefix
    met_run : MeetsSome rows p → (h : List ℕ) × (s : Span) × IsRunBelow rows p.family (last_of p) h s × (p.first ≤ s.hi)
    met_run it =
        let run = some_has (λ s. span_meets s p) it.1.holdings it.3 in
        let s = run.0 in
        let ends = overlap_ends s.family p.family s.lo s.hi p.first (last_of p) run.2 in
        (it.0, s, record { held = (it.1, it.2, contains_had it.1.holdings s run.1); family = same_family s.family p.family (and_parts _ _ run.2).0; begins = ends.0 }, ends.1)

    pub none_met : ((k : List ℕ) (t : Span) → ¬ IsRunBelow rows p.family (last_of p) k t) → ¬ MeetsSome rows p
    none_met none it = let run = met_run it in none run.0 run.1 run.2

    pub met_by_last : (k : List ℕ) (t : Span) → IsLastBelow rows p.family (last_of p) k t → MeetsSome rows p ↔ (p.first ≤ t.hi)
    met_by_last k t last = (ends_after, meets)
      where
        ends_after : MeetsSome rows p → p.first ≤ t.hi
        ends_after it =
            let run = met_run it in
            let s = run.1 in
            let later = last.last run.0 s run.2 in
            elim (cases_lt t.hi p.first) [
              | inl short ↦ absurd (
                  let one = one_run run.0 k s t run.2.held last.is.held (run.2.family ∙ sym last.is.family) later (omega (arith, t.ordered, run.3)) in
                  let hi = ap (λ (x : Span). x.hi) one.1 in
                  omega (arith, hi, run.3))
              | inr long ↦ long
            ]

        meets : p.first ≤ t.hi → MeetsSome rows p
        meets long =
            let own = last.is.held in
            let begins = last.is.begins in
            let meet = and_from _ _ (equal_family t.family p.family last.is.family) (and_from (nat_le t.lo (last_of p)) _ (grind (arith, nat_tests)) (grind (arith, nat_tests))) in
            (k, own.0, own.1, some_from (λ s. span_meets s p) own.0.holdings t (has_contained own.0.holdings t own.2) meet)
