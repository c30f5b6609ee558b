-- Runs that are apart are the maximal runs of their addresses, so lists of the same addresses have the same runs.
use Rattle.addr.proofs.Vocabulary.{◌≡◌, ℕ, ◌+◌, ◌-◌, ◌≤◌, Bool, true, false, not, ◌&&◌, ◌||◌, cond, List, [], ◌∷◌, ◌++◌, ◌⊎◌, inl, inr, filter, refl, sym, ap, ap₂, ◌∙◌, subst, arith, list_all, cases_lt, and_parts, and_from, or_cases, or_left, or_right, false≢true, not-true, nat_tests, and-false, or_comm, list_all-append, list_any-append, Any-from_list_any, list_any-from_Any, Address, is_between, span_has, spans_have, is_apart_below, is_apart, span_eq, is_one_of, without_runs, same_span, AreApart, AreMaximal, Family, Span}
use Rattle.std.proofs.lemmas.Map.Views.{any-filter_same}
use Rattle.addr.proofs.Equality.{equal_span, span_itself, same_family, family_tells}
use Rattle.addr.proofs.AddressLemmas.{between_at}
use Rattle.addr.proofs.SpanLemmas.{is_gap, family_lt_tells}

-- ---- what holds of each run of a list

pub all_at : (p : Span → Bool) (runs : List Span) (s : Span) → list_all p runs ≡ true → is_one_of runs s ≡ true → p s ≡ true
all_at p [] s all there = absurd (false≢true there)
all_at p (t ∷ rest) s all there =
    let both = and_parts (p t) (list_all p rest) all in
    elim (or_cases (span_eq s t) (is_one_of rest s) there) [
      | inl here ↦ subst (λ u. p u ≡ true) (sym (equal_span s t here)) both.0
      | inr later ↦ all_at p rest s both.1 later
    ]

pub all_from : (p : Span → Bool) (runs : List Span) → ((s : Span) → is_one_of runs s ≡ true → p s ≡ true) → list_all p runs ≡ true
all_from p [] each = refl
all_from p (t ∷ rest) each =
    and_from _ _ (each t (or_left _ (is_one_of rest t) (span_itself t))) (all_from p rest (λ s there. each s (or_right (span_eq s t) _ there)))

-- a run that passes a filter is one of the list's, and passes
member_filter : (p : Span → Bool) (runs : List Span) (s : Span) → is_one_of (filter p runs) s ≡ (p s && is_one_of runs s)
member_filter p runs s = any-filter_same (span_eq s) p (p s) (λ t is. ap p (sym (equal_span s t is))) runs

-- an address of the runs lies in one of them
had_by : (runs : List Span) (a : Address) → spans_have runs a ≡ true → (s : Span) × (is_one_of runs s ≡ true) × (span_has s a ≡ true)
had_by runs a has =
    let one = Any-from_list_any (λ s. span_has s a) runs has in
    (one.1, list_any-from_Any (span_eq one.1) runs (one.0, one.1, one.2, one.3, span_itself one.1), one.4)

have_by : (runs : List Span) (s : Span) (a : Address) → is_one_of runs s ≡ true → span_has s a ≡ true → spans_have runs a ≡ true
have_by runs s a there has =
    let one = Any-from_list_any (span_eq s) runs there in
    list_any-from_Any (λ t. span_has t a) runs (one.0, one.1, one.2, one.3, subst (λ u. span_has u a ≡ true) (equal_span s one.1 one.4) has)

same_tests : (a b : Bool) → (a ≡ true → b ≡ true) → (b ≡ true → a ≡ true) → a ≡ b
same_tests a b to back = grind arith

-- the same runs have the same addresses
pub same_addresses : (xs ys : List Span) → ((s : Span) → is_one_of xs s ≡ is_one_of ys s) → (a : Address) → spans_have xs a ≡ spans_have ys a
same_addresses xs ys same a =
    same_tests (spans_have xs a) (spans_have ys a)
    (λ has. let by = had_by xs a has in have_by ys by.0 a (sym (same by.0) ∙ by.1) by.2)
    (λ has. let by = had_by ys a has in have_by xs by.0 a (same by.0 ∙ by.1) by.2)

-- ---- runs that are apart

pub maximal_apart : (runs : List Span) → AreMaximal runs → AreApart runs
maximal_apart [] maximal = tt
maximal_apart (s ∷ rest) maximal = (all_from (is_apart s) rest (λ t there. or_left _ (is_apart_below t s) (all_at (is_apart_below s) rest t maximal.0 there)), maximal_apart rest maximal.1)

-- two of the runs are one run or apart
two_apart : (runs : List Span) (s t : Span) → AreApart runs → is_one_of runs s ≡ true → is_one_of runs t ≡ true → (s ≡ t) ⊎ (is_apart s t ≡ true)
two_apart [] s t apart s_there t_there = absurd (false≢true s_there)
two_apart (u ∷ rest) s t apart s_there t_there =
    elim (or_cases (span_eq s u) (is_one_of rest s) s_there) [
      | inl first ↦ elim (or_cases (span_eq t u) (is_one_of rest t) t_there) [
        | inl second ↦ inl (equal_span s u first ∙ sym (equal_span t u second))
        | inr later ↦ inr (subst (λ v. is_apart v t ≡ true) (sym (equal_span s u first)) (all_at (is_apart u) rest t apart.0 later))
      ]
      | inr earlier ↦ elim (or_cases (span_eq t u) (is_one_of rest t) t_there) [
        | inl second ↦ inr (subst (λ v. is_apart s v ≡ true) (sym (equal_span t u second)) (or_comm (is_apart_below s u) (is_apart_below u s) ∙ all_at (is_apart u) rest s apart.0 earlier))
        | inr later ↦ two_apart rest s t apart.1 earlier later
      ]
    ]

-- a run that has an address in or next to another is not apart from it
near : (f g : Family) (lo hi start end n : ℕ) → is_between g start end (record { family = f; number = n }) ≡ true → lo ≤ n + 1 → n ≤ hi + 1
    → (is_gap f hi g start || is_gap g end f lo) ≡ true → ⊥
near f g lo hi start end n has above below apart = grind (arith, nat_tests, family_tells, family_lt_tells)

number_within : (f : Family) (lo hi n : ℕ) → is_between f lo hi (record { family = f; number = n }) ≡ true → (lo ≤ n) × (n ≤ hi)
number_within f lo hi n has = (grind (arith, nat_tests), grind (arith, nat_tests))

-- an address of the runs that is in or next to one of them is in that one
touching : (runs : List Span) (s : Span) (n : ℕ) → AreApart runs → is_one_of runs s ≡ true → spans_have runs (record { family = s.family; number = n }) ≡ true
    → s.lo ≤ n + 1 → n ≤ s.hi + 1 → (s.lo ≤ n) × (n ≤ s.hi)
touching runs s n apart there has above below =
    let a : Address = record { family = s.family; number = n } in
    let by = had_by runs a has in
    elim (two_apart runs s by.0 apart there by.1) [
      | inl same ↦ number_within s.family s.lo s.hi n (subst (λ t. span_has t a ≡ true) (sym same) by.2)
      | inr gap ↦ absurd (near s.family by.0.family s.lo s.hi by.0.lo by.0.hi n by.2 above below gap)
    ]

-- ---- lists of the same addresses

module _ (xs ys : List Span) (xs_apart : AreApart xs) (same : (a : Address) → spans_have ys a ≡ spans_have xs a) where
  -- a run of the second list that shares an address with one of the first lies in it
  within : (s t : Span) (n : ℕ) → s.family ≡ t.family → is_one_of xs s ≡ true → is_one_of ys t ≡ true
      → s.lo ≤ n → n ≤ s.hi → t.lo ≤ n → n ≤ t.hi → (s.lo ≤ t.lo) × (t.hi ≤ s.hi)
  within s t n family s_there t_there a b c d =
      let held : (k : ℕ) → t.lo ≤ k → k ≤ t.hi → s.lo ≤ k + 1 → k ≤ s.hi + 1 → (s.lo ≤ k) × (k ≤ s.hi) =
      λ k above below near_lo near_hi.
      let at : Address = record { family = s.family; number = k } in
      let in_t : span_has t at ≡ true = subst (λ g. span_has t (record { family = g; number = k }) ≡ true) (sym family) (between_at t.family t.lo t.hi k above below) in
      touching xs s k xs_apart s_there (sym (same at) ∙ have_by ys t at t_there in_t) near_lo near_hi in (
        elim (cases_lt t.lo s.lo) [
          | inl before ↦ absurd (let out = held (s.lo - 1) (omega arith) (omega arith) (omega arith) (omega arith) in omega (arith, out.0))
          | inr after ↦ after
        ],
        elim (cases_lt s.hi t.hi) [
          | inl past ↦ absurd (let out = held (s.hi + 1) (omega arith) (omega arith) (omega arith) (omega arith) in omega (arith, out.1))
          | inr up_to ↦ up_to
        ],
      )

module _ (xs ys : List Span) (xs_apart : AreApart xs) (ys_apart : AreApart ys) (same : (a : Address) → spans_have ys a ≡ spans_have xs a) where
  kept_run : (s : Span) → is_one_of xs s ≡ true → is_one_of ys s ≡ true
  kept_run s there =
      let first : Address = record { family = s.family; number = s.lo } in
      let by = had_by ys first (same first ∙ have_by xs s first there (between_at s.family s.lo s.hi s.lo (omega arith) s.ordered)) in
      let t = by.0 in
      let family : t.family ≡ s.family = same_family t.family s.family (and_parts _ _ by.2).0 in
      let has = number_within t.family t.lo t.hi s.lo (subst (λ g. is_between t.family t.lo t.hi (record { family = g; number = s.lo }) ≡ true) (sym family) by.2) in
      let inner = within xs ys xs_apart same s t s.lo (sym family) there by.1 (omega arith) s.ordered has.0 has.1 in
      let outer = within ys xs ys_apart (λ a. sym (same a)) t s s.lo family by.1 there has.0 has.1 (omega arith) s.ordered in
      subst (λ u. is_one_of ys u ≡ true) (same_span t s family (omega (arith, inner.0, outer.0)) (omega (arith, inner.1, outer.1))) by.1

-- runs that are apart are one of the list exactly where they are one of another of the same addresses
same_runs : (xs ys : List Span) → AreApart xs → AreApart ys → ((a : Address) → spans_have ys a ≡ spans_have xs a) → (s : Span) → is_one_of ys s ≡ is_one_of xs s
same_runs xs ys xs_apart ys_apart same s =
    same_tests (is_one_of ys s) (is_one_of xs s) (kept_run ys xs ys_apart xs_apart (λ a. sym (same a)) s) (kept_run xs ys xs_apart ys_apart same s)

-- ---- some runs in the place of others

apart_filter : (p : Span → Bool) (runs : List Span) → AreApart runs → AreApart (filter p runs)
apart_filter p [] apart = tt
apart_filter p (s ∷ rest) apart =
    elim (p s) as (λ b. AreApart (cond b (s ∷ filter p rest) (filter p rest))) [
      | true ↦ (all_from (is_apart s) (filter p rest) (λ t there. all_at (is_apart s) rest t apart.0 (and_parts (p t) (is_one_of rest t) (sym (member_filter p rest t) ∙ there)).1), apart_filter p rest apart.1)
      | false ↦ apart_filter p rest apart.1
    ]

apart_append : (xs ys : List Span) → AreApart xs → AreApart ys → ((s t : Span) → is_one_of xs s ≡ true → is_one_of ys t ≡ true → is_apart s t ≡ true) → AreApart (xs ++ ys)
apart_append [] ys xs_apart ys_apart each = ys_apart
apart_append (s ∷ rest) ys xs_apart ys_apart each = (
  rw (list_all-append (is_apart s) rest ys) (and_from _ _ xs_apart.0 (all_from (is_apart s) ys (λ t there. each s t (or_left _ (is_one_of rest s) (span_itself s)) there))),
  apart_append rest ys xs_apart.1 ys_apart (λ t u t_there u_there. each t u (or_right (span_eq t s) _ t_there) u_there),
)

-- Runs without those of v that w lacks, and with those of w that v lacks: of the addresses of v they become those of w.
module _ (v w runs : List Span) (v_maximal : AreMaximal v) (w_maximal : AreMaximal w) (apart : AreApart runs) (same : (a : Address) → spans_have runs a ≡ spans_have v a) where
  abbrev kept : List Span
  kept = without_runs (without_runs w v) runs

  abbrev come : List Span
  come = without_runs v w

  in_kept : (s : Span) → is_one_of kept s ≡ (is_one_of v s && is_one_of w s)
  in_kept s =
      member_filter (λ t. not (is_one_of (without_runs w v) t)) runs s
      ∙ ap₂ (λ b c. not b && c) (member_filter (λ t. not (is_one_of w t)) v s) (same_runs v runs (maximal_apart v v_maximal) apart same s)
      ∙ both (is_one_of v s) (is_one_of w s)
    where
      both : (b c : Bool) → (not (not c && b) && b) ≡ (b && c)
      both b c = grind arith

  in_come : (s : Span) → is_one_of come s ≡ (not (is_one_of v s) && is_one_of w s)
  in_come s = member_filter (λ t. not (is_one_of v t)) w s

  in_either : (s : Span) → is_one_of (kept ++ come) s ≡ is_one_of w s
  in_either s = list_any-append (span_eq s) kept come ∙ ap₂ ◌||◌ (in_kept s) (in_come s) ∙ either (is_one_of v s) (is_one_of w s)
    where
      either : (b c : Bool) → ((b && c) || (not b && c)) ≡ c
      either b c = grind arith

  apart_still : AreApart (kept ++ come)
  apart_still =
      apart_append kept come (apart_filter (λ s. not (is_one_of (without_runs w v) s)) runs apart) (apart_filter (λ s. not (is_one_of v s)) w w_apart) each
    where
      w_apart : AreApart w
      w_apart = maximal_apart w w_maximal

      each : (s t : Span) → is_one_of kept s ≡ true → is_one_of come t ≡ true → is_apart s t ≡ true
      each s t s_there t_there =
          let old = and_parts (is_one_of v s) (is_one_of w s) (sym (in_kept s) ∙ s_there) in
          let new = and_parts (not (is_one_of v t)) (is_one_of w t) (sym (in_come t) ∙ t_there) in
          elim (two_apart w s t w_apart old.1 new.1) [
            | inl one ↦ absurd (false≢true (sym (not-true (is_one_of v t) new.0) ∙ subst (λ u. is_one_of v u ≡ true) one old.0))
            | inr gap ↦ gap
          ]

  pub runs_exchanged : AreApart (kept ++ come) × ((a : Address) → spans_have (kept ++ come) a ≡ spans_have w a)
  runs_exchanged = (apart_still, same_addresses (kept ++ come) w in_either)

-- no run that comes is one of those that go
pub none_back : (v w : List Span) → list_all (λ s. not (is_one_of (without_runs w v) s)) (without_runs v w) ≡ true
none_back v w = all_from (λ s. not (is_one_of (without_runs w v) s)) (without_runs v w) (λ s there.
    let new = and_parts (not (is_one_of v s)) (is_one_of w s) (sym (member_filter (λ t. not (is_one_of v t)) w s) ∙ there) in
    ap not (member_filter (λ t. not (is_one_of w t)) v s ∙ ap (λ b. not (is_one_of w s) && b) (not-true (is_one_of v s) new.0) ∙ and-false (not (is_one_of w s))))
