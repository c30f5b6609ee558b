-- Reaches in their order: which can enclose a wanted one, and what is kept of them.
use Rattle.slurm.proofs.Vocabulary.{◌≡◌, ℕ, zero, suc, ◌-◌, ◌≤◌, ◌<◌, ◌==◌, Bool, true, false, if◌then◌else◌, ◌||◌, List, [], ◌∷◌, length, get_or, take, Option, Some, None, refl, sym, ap, subst, ◌∙◌, arith, inl, inr, Ordering, IsEquivalence, IsTotalOrder, nat_cmp_total, nat_eq_equiv, on_equiv, on_total, then_total, options_equiv, options_total, All, AllPairs, dedup, dedup_from, IsPartitionedBy, IsPartitionPoint, IsSorted, option_cmp, option_eq, is_le, is_lt, nat_cmp, ordering_reverse, ordering_then, Less, Equal, Greater, and_from, and_parts, both_ways, cases_Bool, cases_lt, cases_order, eqb-true, eq-eqb, get_or-take, get_or_read, length-take-le, Any-from_list_any, list_any_at, ranks_by, sorted_far, contains, Asn, Prefix, le-trans, prefix_order, cmp-equal, cmp-greater, contains-at_most, contains-between, contains-ends, ends-contains, Filter, encloses, reach_cmp, some_encloses, AreReachesOf, AreWidest}
use Rattle.std.proofs.lemmas.List.Filters.{All-dedup}
use Rattle.std.proofs.lemmas.List.Kept.{AllPairs-cons}
use Rattle.slurm.specs.contracts.reach.ReachOrd.TheImpl as ReachOrd
use Rattle.slurm.specs.declared.reach.Reach.{Reach}

-- ---- the order

abbrev asn_cmp : Option Asn → Option Asn → Ordering
asn_cmp = option_cmp (λ a b. nat_cmp a.0 b.0)

abbrev same_asn : Option Asn → Option Asn → Bool
same_asn = option_eq (λ a b. a.0 == b.0)

pub reach_total : IsTotalOrder reach_cmp
reach_total = then_total (on_total (λ r. r.asn) (options_total (on_total (λ a. a.0) nat_cmp_total))) (on_total (λ r. r.prefix) prefix_order.total)

same-equal : (a b : Option Asn) → same_asn a b ≡ true → asn_cmp a b ≡ Equal
same-equal None None same = refl
same-equal None (Some b) same = cc
same-equal (Some a) None same = cc
same-equal (Some a) (Some b) same = cmp-equal a.0 b.0 (eqb-true a.0 b.0 same)

-- between numbers that are one, in order, lies only that number
between-numbers : (a b : ℕ) (o p : Ordering) → is_le (ordering_then (nat_cmp a b) o) ≡ true → is_le (ordering_then (nat_cmp b a) p) ≡ true → (a ≡ b) × (is_le o ≡ true) × (is_le p ≡ true)
between-numbers a b o p from to =
    elim (cases_order a b) [
      | inl same ↦ (same, rw (cmp-equal a b same) at from, rw (cmp-equal b a (sym same)) at to)
      | inr (inl less) ↦ let no : is_le (ordering_then (nat_cmp b a) p) ≡ false = rw (cmp-greater b a less) in absurd (both_ways _ no to)
      | inr (inr more) ↦ let no : is_le (ordering_then (nat_cmp a b) o) ≡ false = rw (cmp-greater a b more) in absurd (both_ways _ no from)
    ]

between-asn : (a b c : Option Asn) (o p : Ordering) → same_asn a c ≡ true → is_le (ordering_then (asn_cmp a b) o) ≡ true → is_le (ordering_then (asn_cmp b c) p) ≡ true → (same_asn a b ≡ true) × (is_le o ≡ true) × (is_le p ≡ true)
between-asn None None None o p same from to = (refl, from, to)
between-asn None None (Some c) o p same from to = cc
between-asn None (Some b) None o p same from to = cc
between-asn None (Some b) (Some c) o p same from to = cc
between-asn (Some a) b None o p same from to = cc
between-asn (Some a) None (Some c) o p same from to = cc
between-asn (Some a) (Some b) (Some c) o p same from to =
    let one : a.0 ≡ c.0 = eqb-true a.0 c.0 same in
    let parts = between-numbers a.0 b.0 o p from (subst (λ n. is_le (ordering_then (nat_cmp b.0 n) p) ≡ true) (sym one) to) in
    (eq-eqb a.0 b.0 parts.0, parts.1, parts.2)

-- a reach sorts at or before each that it encloses
encloses-up_to : (r w : Reach) → encloses r w ≡ true → is_le (reach_cmp r w) ≡ true
encloses-up_to r w h =
    let parts = and_parts (same_asn r.asn w.asn) (contains r.prefix w.prefix) h in
    rw (same-equal r.asn w.asn parts.0) (contains-at_most r.prefix w.prefix parts.1)

-- between a reach that encloses another and that other lie, in order, only reaches that the first encloses
encloses-between : (r s w : Reach) → encloses r w ≡ true → is_le (reach_cmp r s) ≡ true → is_le (reach_cmp s w) ≡ true → encloses r s ≡ true
encloses-between r s w h from to =
    let parts = and_parts (same_asn r.asn w.asn) (contains r.prefix w.prefix) h in
    let asns = between-asn r.asn s.asn w.asn _ _ parts.0 from to in
    and_from (same_asn r.asn s.asn) (contains r.prefix s.prefix) asns.0 (contains-between r.prefix s.prefix w.prefix parts.1 asns.1 asns.2)

-- ---- which encloses a wanted one

-- those up to the wanted one are at the front
pub widest-partitioned : (w : Reach) (reaches : List Reach) → AreWidest reaches → IsPartitionedBy (λ r. is_le (reach_cmp r w)) reaches
widest-partitioned w reaches widest i j d le within last =
    elim (cases_lt i j) [
      | inl less ↦ le-trans reach_total (get_or reaches i d) (get_or reaches j d) w (widest i j d less within).0 last
      | inr most ↦ let same : j ≡ i = omega arith in subst (λ k. is_le (reach_cmp (get_or reaches k d) w) ≡ true) same last
    ]

-- where the first n are those up to the wanted one
abbrev pub IsEnd : List Reach → Reach → ℕ → Type 0
IsEnd reaches w n = IsPartitionPoint (λ r. is_le (reach_cmp r w) ≡ true) (λ r. is_le (reach_cmp r w) ≡ false) reaches n

-- one that encloses the wanted one is the last up to it
enclosing-last : (reaches : List Reach) (w : Reach) (n k : ℕ) (r : Reach) → AreWidest reaches → IsEnd reaches w n → n ≤ length reaches → k < length reaches → get_or reaches k r ≡ r → encloses r w ≡ true → suc k ≡ n
enclosing-last reaches w n k r widest end fits within read h =
    elim (cases_order (suc k) n) [
      | inl same ↦ same
      | inr (inl before) ↦
          let last = get_or reaches (n - 1) r in
          let pair = widest k (n - 1) r (omega arith) (omega arith) in
          let up_to : is_le (reach_cmp last w) ≡ true = end.0 (n - 1) r (omega arith) (omega arith) in
          let order : is_le (reach_cmp r last) ≡ true = subst (λ s. is_le (reach_cmp s last) ≡ true) read pair.0 in
          let apart : encloses r last ≡ false = subst (λ s. encloses s last ≡ false) read pair.1 in
          absurd (both_ways _ apart (encloses-between r last w h order up_to))
      | inr (inr after) ↦
          let beyond : is_le (reach_cmp r w) ≡ false = subst (λ s. is_le (reach_cmp s w) ≡ false) read (end.1 k r (omega arith) within) in
          absurd (both_ways _ beyond (encloses-up_to r w h))
    ]

none-encloses : (reaches : List Reach) (w : Reach) → AreWidest reaches → IsEnd reaches w 0 → false ≡ some_encloses reaches w
none-encloses reaches w widest end =
    elim (cases_Bool (some_encloses reaches w)) [
      | inl some ↦
          let one = Any-from_list_any (λ r. encloses r w) reaches some in
          let at : suc one.0 ≡ 0 = enclosing-last reaches w 0 one.0 one.1 widest end (omega arith) one.2 one.3 one.4 in
          absurd (omega (arith, at))
      | inr none ↦ sym none
    ]

last-encloses : (reaches : List Reach) (w last : Reach) (n : ℕ) → AreWidest reaches → IsEnd reaches w n → 0 < n → n ≤ length reaches → last ≡ get_or reaches (n - 1) last → encloses last w ≡ some_encloses reaches w
last-encloses reaches w last n widest end pos fits read =
    elim (cases_Bool (some_encloses reaches w)) [
      | inl some ↦
          let one = Any-from_list_any (λ r. encloses r w) reaches some in
          let at : suc one.0 ≡ n = enclosing-last reaches w n one.0 one.1 widest end fits one.2 one.3 one.4 in
          let place : n - 1 ≡ one.0 = omega (arith, at) in
          let same : last ≡ one.1 = get_or_read reaches (n - 1) last (omega arith) read one.1 ∙ ap (λ i. get_or reaches i one.1) place ∙ one.3 in
          ap (λ r. encloses r w) same ∙ one.4 ∙ sym some
      | inr none ↦
          elim (cases_Bool (encloses last w)) [
            | inl some ↦
                let is : encloses (get_or reaches (n - 1) last) w ≡ true = ap (λ r. encloses r w) (sym read) ∙ some in
                absurd (both_ways _ none (list_any_at (λ r. encloses r w) reaches (n - 1) last (omega arith) is))
            | inr other ↦ other ∙ sym none
          ]
    ]

-- the same of the slice of those up to the wanted one
pub none-of_front : (reaches : List Reach) (w : Reach) (n : ℕ) → AreWidest reaches → IsEnd reaches w n → n ≤ length reaches → length (take n reaches) ≤ 0 → false ≡ some_encloses reaches w
none-of_front reaches w n widest end fits empty =
    let none : n ≡ 0 = omega (arith, length-take-le n reaches fits, empty) in
    none-encloses reaches w widest (subst (IsEnd reaches w) none end)

pub last-of_front : (reaches : List Reach) (w last : Reach) (n : ℕ) → AreWidest reaches → IsEnd reaches w n → n ≤ length reaches → 0 < length (take n reaches) → last ≡ get_or (take n reaches) (length (take n reaches) - 1) last → encloses last w ≡ some_encloses reaches w
last-of_front reaches w last n widest end fits some read =
    let long : length (take n reaches) ≡ n = length-take-le n reaches fits in
    let pos : 0 < n = omega (arith, some, long) in
    let place = ap (λ k. get_or (take n reaches) (k - 1) last) long ∙ get_or-take n reaches (n - 1) last (omega (arith, pos)) in
    last-encloses reaches w last n widest end pos fits (read ∙ place)

-- ---- what is kept

pub derived_reach_order : ReachOrd.ghosts.cmp ≡ reach_cmp
derived_reach_order = refl

contains-trans : (p q r : Prefix) → contains p q ≡ true → contains q r ≡ true → contains p r ≡ true
contains-trans p q r one two =
    let outer = contains-ends p q one in
    let inner = contains-ends q r two in
    ends-contains p r (outer.family ∙ inner.family) (omega (arith, outer.first, inner.first)) (omega (arith, outer.last, inner.last))

encloses-trans : (r s w : Reach) → encloses r s ≡ true → encloses s w ≡ true → encloses r w ≡ true
encloses-trans r s w one two =
    let outer = and_parts (same_asn r.asn s.asn) (contains r.prefix s.prefix) one in
    let inner = and_parts (same_asn s.asn w.asn) (contains s.prefix w.prefix) two in
    let asns : IsEquivalence same_asn = options_equiv (on_equiv (λ a. a.0) nat_eq_equiv) in
    and_from (same_asn r.asn w.asn) (contains r.prefix w.prefix) (asns.congr r.asn s.asn w.asn outer.0 ∙ inner.0)
    (contains-trans r.prefix s.prefix w.prefix outer.1 inner.1)

-- what goes beside the last one kept
abbrev pub goes : Reach → Reach → Bool
goes r kept = encloses kept r

abbrev AreInOrder : List Reach → Type 0
AreInOrder reaches = AllPairs (λ r s. is_le (reach_cmp r s) ≡ true) reaches

pub upwards : (o : Ordering) → is_lt o ≡ false → is_le (ordering_reverse o) ≡ true
upwards Less h = cc
upwards Equal h = refl
upwards Greater h = refl

order-from_sorted : (reaches : List Reach) → IsSorted reach_cmp reaches → AreInOrder reaches
order-from_sorted reaches sorted i j d less within =
    let far : is_lt (reach_cmp (get_or reaches j d) (get_or reaches i d)) ≡ false = sorted_far _ (ranks_by reach_total (λ r. r)) reaches sorted i j d (omega arith) within in
    ap is_le (reach_total.antisymm (get_or reaches i d) (get_or reaches j d)) ∙ upwards _ far

order-tail : (r s : Reach) (rest : List Reach) → AreInOrder (r ∷ s ∷ rest) → AreInOrder (s ∷ rest)
order-tail r s rest order i j d less within = order (suc i) (suc j) d (omega arith) (omega arith)

order-without : (r s : Reach) (rest : List Reach) → AreInOrder (r ∷ s ∷ rest) → AreInOrder (r ∷ rest)
order-without r s rest order =
    AllPairs-cons (λ r s. is_le (reach_cmp r s) ≡ true) r rest (λ j d within. order 0 (suc (suc j)) d (omega arith) (omega arith))
    (λ i j d less within. order (suc (suc i)) (suc (suc j)) d (omega arith) (omega arith))

-- a reach that does not enclose the next one encloses none that comes later
apart-later : (r s : Reach) (rest : List Reach) → AreInOrder (r ∷ s ∷ rest) → encloses r s ≡ false → All (λ w. (is_le (reach_cmp r w) ≡ true) × (encloses r w ≡ false)) (s ∷ rest)
apart-later r s rest order apart zero d within = (order 0 1 d (omega arith) (omega arith), apart)
apart-later r s rest order apart (suc j) d within =
    let w = get_or rest j d in
    let first : is_le (reach_cmp r s) ≡ true = order 0 1 d (omega arith) (omega arith) in
    let later : is_le (reach_cmp s w) ≡ true = order 1 (suc (suc j)) d (omega arith) (omega arith) in (
      order 0 (suc (suc j)) d (omega arith) (omega arith),
      elim (cases_Bool (encloses r w)) [
        | inl some ↦ absurd (both_ways _ apart (encloses-between r s w some first later))
        | inr none ↦ none
      ],
    )

widest-from : (r : Reach) (rest : List Reach) → AreInOrder (r ∷ rest) → AreWidest (dedup_from goes r rest)
widest-from r [] order = λ i j d less within. absurd (omega arith)
widest-from r (s ∷ rest) order =
    elim (cases_Bool (encloses r s)) [
      | inl gone ↦ subst (λ b. AreWidest (if b then dedup_from goes r rest else r ∷ dedup_from goes s rest)) (sym gone) (widest-from r rest (order-without r s rest order))
      | inr stays ↦
          subst (λ b. AreWidest (if b then dedup_from goes r rest else r ∷ dedup_from goes s rest)) (sym stays)
          (AllPairs-cons (λ r w. (is_le (reach_cmp r w) ≡ true) × (encloses r w ≡ false)) r (dedup_from goes s rest)
          (All-dedup goes (λ w. (is_le (reach_cmp r w) ≡ true) × (encloses r w ≡ false)) (s ∷ rest) (apart-later r s rest order stays))
          (widest-from s rest (order-tail r s rest order)))
    ]

pub widest-dedup : (reaches : List Reach) → IsSorted reach_cmp reaches → AreWidest (dedup goes reaches)
widest-dedup [] sorted = λ i j d less within. absurd (omega arith)
widest-dedup (r ∷ rest) sorted = widest-from r rest (order-from_sorted (r ∷ rest) sorted)

-- what goes encloses nothing that the one before it does not
or-more : (a b c : Bool) → (b ≡ true → a ≡ true) → (a || c) ≡ (a || (b || c))
or-more true b c h = refl
or-more false true c h = absurd (both_ways _ refl (h refl))
or-more false false c h = refl

same-from : (w r : Reach) (rest : List Reach) → some_encloses (dedup_from goes r rest) w ≡ (encloses r w || some_encloses rest w)
same-from w r [] = refl
same-from w r (s ∷ rest) =
    elim (cases_Bool (encloses r s)) [
      | inl gone ↦
          ap (λ b. some_encloses (if b then dedup_from goes r rest else r ∷ dedup_from goes s rest) w) gone
          ∙ same-from w r rest
          ∙ or-more (encloses r w) (encloses s w) (some_encloses rest w) (encloses-trans r s w gone)
      | inr stays ↦
          ap (λ b. some_encloses (if b then dedup_from goes r rest else r ∷ dedup_from goes s rest) w) stays
          ∙ ap (λ b. encloses r w || b) (same-from w s rest)
    ]

pub same-dedup : (w : Reach) (reaches : List Reach) → some_encloses (dedup goes reaches) w ≡ some_encloses reaches w
same-dedup w [] = refl
same-dedup w (r ∷ rest) = same-from w r rest

-- reaches that enclose the same reach the same
pub same-reaches : (filters : List Filter) (old new : List Reach) → ((w : Reach) → some_encloses new w ≡ some_encloses old w) → AreReachesOf filters old → AreReachesOf filters new
same-reaches filters old new same is v =
    ap (λ b. b || some_encloses new (record { asn = Some v.asn; prefix = v.prefix })) (same (record { asn = None; prefix = v.prefix }))
    ∙ ap (λ b. some_encloses old (record { asn = None; prefix = v.prefix }) || b) (same (record { asn = Some v.asn; prefix = v.prefix }))
    ∙ is v
