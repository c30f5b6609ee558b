-- VRPs that are between two of one prefix, and do not match a route.
use Rattle.payload.proofs.Vocabulary.{◌≡◌, ℕ, ◌+◌, ◌≤◌, ◌<◌, Bool, true, false, ◌&&◌, nat_le, List, take, drop, length, get_or, sym, ap, subst, arith, inl, inr, ◌⊎◌, Ordering, All, IsPartitionPoint, IsPartitionedBy, nat_cmp, ordering_then, is_lt, Less, Equal, Greater, cases_lt, nat_tests, and-false, take-append-drop, get_or-drop, length-drop, covers, matches, is_from, prefix_cmp, vrp_cmp, vrp_order, less_is, Route, Vrp, AreRising, is_below, HasAllMatching}
use Rattle.addr.specs.declared.asn.Asn.{Asn}

less-numbers : (a b l m : ℕ) → ordering_then (nat_cmp a b) (nat_cmp l m) ≡ Less → (a < b) ⊎ ((a ≡ b) × (l < m))
less-numbers a b l m h = grind (arith, nat_tests)

not_less-numbers : (a b l m : ℕ) → is_lt (ordering_then (nat_cmp a b) (nat_cmp l m)) ≡ false → (b < a) ⊎ ((a ≡ b) × (m ≤ l))
not_less-numbers a b l m h = grind (arith, nat_tests)

-- what sorts between two that tie in the first order is settled by the second
tied : (o r s : Ordering) → ordering_then o r ≡ Less → is_lt (ordering_then o s) ≡ false → (r ≡ Less) × (is_lt s ≡ false)
tied Less r s less from = cc
tied Equal r s less from = (less, from)
tied Greater r s less from = cc

unmatched : (a b c : Bool) → b && c ≡ false → a && (b && c) ≡ false
unmatched a b c h = grind arith

-- From this maxLength and AS of its prefix on, and before w, no VRP matches: its prefix is that of w, and its maxLength
-- is too small or that of w.
pub unlike-between : (v w : Vrp) (route : Route) (max asn : ℕ) → (route.prefix.length ≤ w.max → max ≡ w.max) → ((a : Asn) → asn ≤ a.0 → a.0 < w.asn.0 → is_from route.origin a ≡ false) → vrp_cmp v w ≡ Less → is_lt (ordering_then (prefix_cmp v.prefix w.prefix) (ordering_then (nat_cmp v.max max) (nat_cmp v.asn.0 asn))) ≡ false → matches v route ≡ false
unlike-between v w route max asn top others less from =
    unmatched (covers v route) (nat_le route.prefix.length v.max) (is_from route.origin v.asn)
    (elim (cases_lt w.max route.prefix.length) [
      | inl long ↦ rw (too_short long)
      | inr fits ↦ rw (other_as fits) (and-false (nat_le route.prefix.length v.max))
    ])
  where
    parts : (ordering_then (nat_cmp v.max w.max) (nat_cmp v.asn.0 w.asn.0) ≡ Less) × (is_lt (ordering_then (nat_cmp v.max max) (nat_cmp v.asn.0 asn)) ≡ false)
    parts = tied (prefix_cmp v.prefix w.prefix) _ _ less from

    before : (v.max < w.max) ⊎ ((v.max ≡ w.max) × (v.asn.0 < w.asn.0))
    before = less-numbers v.max w.max v.asn.0 w.asn.0 parts.0

    onwards : (max < v.max) ⊎ ((v.max ≡ max) × (asn ≤ v.asn.0))
    onwards = not_less-numbers v.max max v.asn.0 asn parts.1

    too_short : w.max < route.prefix.length → nat_le route.prefix.length v.max ≡ false
    too_short long = elim before [
      | inl lower_half ↦ grind (arith, nat_tests)
      | inr tie ↦ let same = tie.0 in grind (arith, nat_tests)
    ]

    other_as : route.prefix.length ≤ w.max → is_from route.origin v.asn ≡ false
    other_as fits =
        let same : max ≡ w.max = top fits in
        elim before [
          | inl lower_half ↦ elim onwards [ inl higher ↦ absurd (omega arith) | inr tie ↦ absurd (omega (arith, tie.0)) ]
          | inr tie ↦ elim onwards [ inl higher ↦ absurd (omega (arith, tie.0)) | inr later ↦ others v.asn later.1 tie.1 ]
        ]

-- where VRPs rise, those before one are at the front
pub rising-below : (b : Vrp) (vrps : List Vrp) → AreRising vrps → IsPartitionedBy (λ v. is_below v b) vrps
rising-below b vrps rising i j d le within last =
    elim (cases_lt i j) [
      | inl less ↦
          let v = get_or vrps i d in
          let w = get_or vrps j d in
          ap is_lt (vrp_order.total.trans v w b (rising i j d less within) (less_is _ last))
      | inr most ↦ let same : j ≡ i = omega arith in rw (sym same) last
    ]

pub front-below : (route : Route) (w b : Vrp) (vrps : List Vrp) (n : ℕ) → n ≤ length vrps → IsPartitionPoint (λ v. is_below v b ≡ true) (λ v. is_below v b ≡ false) vrps n → All (λ v. vrp_cmp v w ≡ Less) vrps → ((v : Vrp) → vrp_cmp v w ≡ Less → is_below v b ≡ false → matches v route ≡ false) → HasAllMatching route vrps (take n vrps)
front-below route w b vrps n fits parted less unlike = record {
  rest = drop n vrps;
  parts = sym (take-append-drop n vrps);
  others = λ k d within.
      let high : n + k < length vrps = omega (arith, length-drop n vrps) in
      let read : get_or (drop n vrps) k d ≡ get_or vrps (n + k) d = get_or-drop n vrps k d in
      subst (λ v. matches v route ≡ false) (sym read) (unlike (get_or vrps (n + k) d) (less (n + k) d high) (parted.1 (n + k) d (omega arith) high));
}
