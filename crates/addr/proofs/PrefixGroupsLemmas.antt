-- The texts of IPv6 addresses: `Ipv6Addr` reads the loose groups where there is no dot, and nothing else.
use Rattle.addr.proofs.Vocabulary.{◌≡◌, ◌⊎◌, ℕ, ◌+◌, ◌<◌, ◌≤◌, Bool, true, false, ◌&&◌, ◌==◌, List, [], ◌∷◌, ◌++◌, length, drop, slice_index, option_map, Some, None, Result, Ok, Err, All, refl, sym, ap, ◌∙◌, subst, inl, inr, append_assoc, append-nil, arith, lit≤, lt-ltb, eq-eqb, cases_Bool, or_parts, and_parts, ltb-true, eqb-true, false≢true, cond_some, option_and_then_some, some_pair_parts, none-some, same_Some, All-nil, All-cons, digit_value, list_any, slice_split, join_with_byte, result_ok, group, all_groups}
use Rattle.std.proofs.Common.{decimal}
use Rattle.std.proofs.lemmas.List.Splits.{slice_split_none, slice_split_at, join_with_byte-slice_split, length-slice_split}
use Rattle.std.proofs.NetLemmas.Options.{map_some}
use Rattle.std.specs.declared.net.ipv6_addr.Ipv6Addr.{Ipv6Addr}
use Rattle.std.specs.Net.Grammar.{Parses, IsIpv6Text, IsDotted, IsGroup, IsGroupsAfter, IsGroups, IsColonHex}
use Rattle.addr.specs.PrefixText.{colon_groups, cut_at_gap, loose_groups}
use Rattle.addr.proofs.PrefixTextLemmas.{short_number_from, short_number_is, Lacks, Lacks-append, Lacks_parts, Lacks-digits, option_cases, dotted_parts}

-- ---- one group

group_from : (text : List ℕ) (s : ℕ) → IsGroup text s → group text ≡ Some s
group_from text s h = short_number_from 16 4 text s (record { some = omega (arith, h.0.0.0); few = h.1; digits = h.0.0.1; value = h.0.1 })

group_is : (text : List ℕ) (s : ℕ) → group text ≡ Some s → IsGroup text s
group_is text s e =
    let h = short_number_is 16 4 text s e in
    let some = h.some in
    (((omega arith, h.digits), h.value), h.few)

group_lacks : (byte : ℕ) (text : List ℕ) (s : ℕ) → 16 ≤ digit_value byte → IsGroup text s → Lacks byte text
group_lacks byte text s other h = Lacks-digits 16 byte text other h.0.0.1

-- ---- groups as they are cut at the colons

none_passes : (byte : ℕ) (text : List ℕ) → Lacks byte text → All (λ b. (b == byte) ≡ false) text
none_passes byte [] none = All-nil (λ b. (b == byte) ≡ false)
none_passes byte (c ∷ text) none =
    let (here, others) = or_parts (c == byte) (list_any (λ b. b == byte) text) none in
    All-cons (λ b. (b == byte) ≡ false) c text here (none_passes byte text others)

-- a dotted tail has a dot
dotted_has_dot : (text octets : List ℕ) → IsDotted text octets → Lacks 46 text → ⊥
dotted_has_dot text octets h none =
    let split = subst (Lacks 46) (h.spelled ∙ dotted_parts h.a h.b h.c h.d) none in
    let dot = (Lacks_parts 46 (decimal h.a) (46 ∷ (decimal h.b ++ 46 ∷ (decimal h.c ++ 46 ∷ decimal h.d))) split).1 in
    false≢true (sym dot)

-- what follows a group: nothing, or a colon and more groups
IsTail : List ℕ → List ℕ → Type 0
IsTail text segments = ((text ≡ []) × (segments ≡ [])) ⊎ ((rest : List ℕ) × (text ≡ 58 ∷ rest) × (all_groups (slice_split (λ b. b == 58) rest) ≡ Some segments))

split_group : (here text : List ℕ) (s : ℕ) (segments : List ℕ) → IsGroup here s → IsTail text segments → all_groups (slice_split (λ b. b == 58) (here ++ text)) ≡ Some (s ∷ segments)
unfolding IsTail
split_group here text s segments h (inl end) =
    let plain = none_passes 58 here (group_lacks 58 here s (lit≤ tt) h) in
    rw (end.0, end.1, append-nil here, slice_split_none (λ b. b == 58) here plain, group_from here s h)
split_group here text s segments h (inr more) =
    let plain = none_passes 58 here (group_lacks 58 here s (lit≤ tt) h) in
    rw (more.1, slice_split_at (λ b. b == 58) here 58 more.0 plain refl, group_from here s h, more.2)

tail_groups : (ipv4 : Bool) (text segments : List ℕ) → IsGroupsAfter ipv4 (58 ∷ []) text segments → Lacks 46 text → IsTail text segments
unfolding IsTail
tail_groups ipv4 text [] h none = inl (h, refl)
tail_groups ipv4 text (s ∷ segments) (inl h) none =
    let (here, more, split, is_group, is_more) = h in
    let lacks = (Lacks_parts 46 (58 ∷ here) more (subst (Lacks 46) split none)).1 in
    inr (here ++ more, split, split_group here more s segments is_group (tail_groups ipv4 more segments is_more lacks))
tail_groups ipv4 text (s ∷ segments) (inr h) none =
    let (last, octets, allowed, split, is_dotted, value) = h in
    absurd (dotted_has_dot last octets is_dotted (Lacks_parts 46 (58 ∷ []) last (subst (Lacks 46) split none)).1)

colon_groups_some : (text here : List ℕ) (s : ℕ) (segments : List ℕ) → IsGroup here s → IsTail text segments → colon_groups (here ++ text) ≡ Some (s ∷ segments)
unfolding colon_groups
colon_groups_some text [] s segments h tail = absurd (omega (arith, h.0.0.0))
colon_groups_some text (c ∷ here) s segments h tail = split_group (c ∷ here) text s segments h tail

colon_groups_from : (ipv4 : Bool) (text segments : List ℕ) → IsGroups ipv4 text segments → Lacks 46 text → colon_groups text ≡ Some segments
unfolding colon_groups
colon_groups_from ipv4 text [] h none = rw h
colon_groups_from ipv4 text (s ∷ segments) (inl h) none =
    let (here, more, split, is_group, is_more) = h in
    let lacks = (Lacks_parts 46 here more (subst (Lacks 46) split none)).1 in
    rw split (colon_groups_some more here s segments is_group (tail_groups ipv4 more segments is_more lacks))
colon_groups_from ipv4 text (s ∷ segments) (inr h) none =
    let (last, octets, allowed, split, is_dotted, value) = h in
    absurd (dotted_has_dot last octets is_dotted (subst (Lacks 46) split none))

-- parts that are groups, joined by colons
joined : List (List ℕ) → List ℕ
joined [] = []
joined (part ∷ parts) = 58 ∷ (part ++ joined parts)

join-joined : (part : List ℕ) (parts : List (List ℕ)) → join_with_byte 58 (part ∷ parts) ≡ part ++ joined parts
unfolding joined
join-joined part [] = sym (append-nil part)
join-joined part (next ∷ parts) = ap (λ text. part ++ 58 ∷ text) (join-joined next parts)

tail_is : (ipv4 : Bool) (parts : List (List ℕ)) (segments : List ℕ) → all_groups parts ≡ Some segments → IsGroupsAfter ipv4 (58 ∷ []) (joined parts) segments
unfolding joined
tail_is ipv4 [] segments e = subst (IsGroupsAfter ipv4 (58 ∷ []) []) (same_Some _ _ e) refl
tail_is ipv4 (part ∷ parts) segments e =
    option_and_then_some _ (group part) _ e λ s here kept.
    option_and_then_some _ (all_groups parts) _ kept λ others more same.
    subst (IsGroupsAfter ipv4 (58 ∷ []) (58 ∷ (part ++ joined parts))) (same_Some _ _ same)
    (inl (part, joined parts, refl, group_is part s here, tail_is ipv4 parts others more))

parts_are : (ipv4 : Bool) (parts : List (List ℕ)) (segments : List ℕ) → 0 < length parts → all_groups parts ≡ Some segments → IsGroups ipv4 (join_with_byte 58 parts) segments
parts_are ipv4 [] segments some e = absurd (omega arith)
parts_are ipv4 (part ∷ parts) segments some e =
    option_and_then_some _ (group part) _ e λ s here kept.
    option_and_then_some _ (all_groups parts) _ kept λ others more same.
    subst (IsGroups ipv4 (join_with_byte 58 (part ∷ parts))) (same_Some _ _ same)
    (inl (part, joined parts, join-joined part parts, group_is part s here, tail_is ipv4 parts others more))

colon_groups_are : (ipv4 : Bool) (text segments : List ℕ) → colon_groups text ≡ Some segments → IsGroups ipv4 text segments
unfolding colon_groups
colon_groups_are ipv4 [] segments e = subst (IsGroups ipv4 []) (same_Some _ _ e) refl
colon_groups_are ipv4 (c ∷ rest) segments e =
    let parts = slice_split (λ b. b == 58) (c ∷ rest) in
    let some : 0 < length parts = omega (arith, length-slice_split (λ b. b == 58) (c ∷ rest)) in
    subst (λ text. IsGroups ipv4 text segments) (join_with_byte-slice_split 58 (c ∷ rest)) (parts_are ipv4 parts segments some e)

-- what is before the first of some groups
abbrev lead : Bool → List ℕ
lead true = 58 ∷ []
lead false = []

lead_lacks : (led : Bool) → Lacks 46 (lead led)
lead_lacks true = refl
lead_lacks false = refl

-- groups with no dotted tail have no dot
groups_lack : (led : Bool) (text segments : List ℕ) → IsGroupsAfter false (lead led) text segments → Lacks 46 text
groups_lack led text [] h = subst (Lacks 46) (sym h) refl
groups_lack led text (s ∷ segments) (inl h) =
    let (here, more, split, is_group, is_more) = h in
    let front = Lacks-append 46 (lead led) here (lead_lacks led) (group_lacks 46 here s (lit≤ tt) is_group) in
    subst (Lacks 46) (sym split) (Lacks-append 46 (lead led ++ here) more front (groups_lack true more segments is_more))
groups_lack led text (s ∷ segments) (inr h) = absurd (false≢true h.2)

-- ---- the gap

gap_over_some : (front rest before after : List ℕ) → Lacks 58 front → cut_at_gap rest ≡ Some (before, after) → cut_at_gap (front ++ rest) ≡ Some (front ++ before, after)
unfolding cut_at_gap
gap_over_some [] rest before after none e = e
gap_over_some (c ∷ front) rest before after none e =
    let (here, others) = or_parts (c == 58) (list_any (λ b. b == 58) front) none in
    rw (here, gap_over_some front rest before after others e)

gap_over_none : (front rest : List ℕ) → Lacks 58 front → cut_at_gap rest ≡ None → cut_at_gap (front ++ rest) ≡ None
unfolding cut_at_gap
gap_over_none [] rest none e = e
gap_over_none (c ∷ front) rest none e =
    let (here, others) = or_parts (c == 58) (list_any (λ b. b == 58) front) none in
    rw (here, gap_over_none front rest others e)

-- a lone colon is no gap
colon_then : (next : List ℕ) → (slice_index next 0 == 58) ≡ false → cut_at_gap (58 ∷ next) ≡ option_map {T = List ℕ × List ℕ} (λ cut. (58 ∷ cut.0, cut.1)) (cut_at_gap next)
unfolding cut_at_gap
colon_then next other = rw other

past_some : (led : Bool) (here rest before after : List ℕ) → 0 < length here → Lacks 58 here → cut_at_gap rest ≡ Some (before, after) → cut_at_gap ((lead led ++ here) ++ rest) ≡ Some ((lead led ++ here) ++ before, after)
past_some false here rest before after some none e = gap_over_some here rest before after none e
past_some true [] rest before after some none e = absurd (omega arith)
past_some true (c ∷ here) rest before after some none e =
    let (first, others) = or_parts (c == 58) (list_any (λ b. b == 58) here) none in
    rw (colon_then (c ∷ (here ++ rest)) first, gap_over_some (c ∷ here) rest before after none e)

past_none : (led : Bool) (here rest : List ℕ) → 0 < length here → Lacks 58 here → cut_at_gap rest ≡ None → cut_at_gap ((lead led ++ here) ++ rest) ≡ None
past_none false here rest some none e = gap_over_none here rest none e
past_none true [] rest some none e = absurd (omega arith)
past_none true (c ∷ here) rest some none e =
    let (first, others) = or_parts (c == 58) (list_any (λ b. b == 58) here) none in
    rw (colon_then (c ∷ (here ++ rest)) first, gap_over_none (c ∷ here) rest none e)

gap_after : (led : Bool) (text segments after : List ℕ) → IsGroupsAfter false (lead led) text segments → cut_at_gap (text ++ 58 ∷ 58 ∷ after) ≡ Some (text, after)
unfolding cut_at_gap
gap_after led text [] after h = subst (λ t. cut_at_gap (t ++ 58 ∷ 58 ∷ after) ≡ Some (t, after)) (sym h) refl
gap_after led text (s ∷ segments) after (inl h) =
    let (here, more, split, is_group, is_more) = h in
    let later = gap_after true more segments after is_more in
    let step = past_some led here (more ++ 58 ∷ 58 ∷ after) more after is_group.0.0.0 (group_lacks 58 here s (lit≤ tt) is_group) later in
    rw (split, append_assoc (lead led ++ here) more (58 ∷ 58 ∷ after)) step
gap_after led text (s ∷ segments) after (inr h) = absurd (false≢true h.2)

no_gap_in : (ipv4 led : Bool) (text segments : List ℕ) → IsGroupsAfter ipv4 (lead led) text segments → Lacks 46 text → cut_at_gap text ≡ None
unfolding cut_at_gap
no_gap_in ipv4 led text [] h none = rw h refl
no_gap_in ipv4 led text (s ∷ segments) (inl h) none =
    let (here, more, split, is_group, is_more) = h in
    let lacks = (Lacks_parts 46 (lead led ++ here) more (subst (Lacks 46) split none)).1 in
    let later = no_gap_in ipv4 true more segments is_more lacks in
    rw split (past_none led here more is_group.0.0.0 (group_lacks 58 here s (lit≤ tt) is_group) later)
no_gap_in ipv4 led text (s ∷ segments) (inr h) none =
    let (last, octets, allowed, split, is_dotted, value) = h in
    absurd (dotted_has_dot last octets is_dotted (Lacks_parts 46 (lead led) last (subst (Lacks 46) split none)).1)

gap_starts : (c : ℕ) (rest : List ℕ) → (c == 58 && (slice_index rest 0 == 58)) ≡ true → c ∷ rest ≡ 58 ∷ 58 ∷ drop 1 rest
gap_starts c [] e = absurd (false≢true (and_parts (c == 58) false e).1)
gap_starts c (d ∷ more) e =
    let (first, second) = and_parts (c == 58) (d == 58) e in
    let one = eqb-true c 58 first in
    let two = eqb-true d 58 second in
    cc

gap_is : (text before after : List ℕ) → cut_at_gap text ≡ Some (before, after) → text ≡ before ++ 58 ∷ 58 ∷ after
unfolding cut_at_gap
gap_is [] before after e = absurd (none-some _ e)
gap_is (c ∷ rest) before after e =
    let test = c == 58 && (slice_index rest 0 == 58) in
    elim (cases_Bool test) [
      | inl gap ↦
          let here = rw gap at e in
          let (none, more) = some_pair_parts _ _ _ _ here in
          rw (← none, ← more) (gap_starts c rest gap)
      | inr other ↦
          let later = rw other at e in
          map_some _ (cut_at_gap rest) _ later λ cut found same.
          let front : c ∷ cut.0 ≡ before = ap (λ p. p.0) same in
          let back : cut.1 ≡ after = ap (λ p. p.1) same in
          rw (← front, ← back) (ap (λ t. c ∷ t) (gap_is rest cut.0 cut.1 found))
    ]

-- ---- the whole address

pub loose_groups_from : (text segments : List ℕ) → IsColonHex text segments → Lacks 46 text → loose_groups text ≡ Some segments
unfolding loose_groups
loose_groups_from text segments (inl (groups, eight)) none =
    rw (no_gap_in true false text segments groups none, colon_groups_from true text segments groups none, eq-eqb (length segments) 8 eight)
loose_groups_from text segments (inr h) none =
    let split = h.spelled ∙ append_assoc h.head_text (58 ∷ 58 ∷ []) h.tail_text in
    let (head_lacks, rest_lacks) = Lacks_parts 46 h.head_text (58 ∷ 58 ∷ h.tail_text) (subst (Lacks 46) split none) in
    rw (
      split,
      gap_after false h.head_text h.head h.tail_text h.head_groups,
      colon_groups_from false h.head_text h.head h.head_groups head_lacks,
      colon_groups_from true h.tail_text h.tail h.tail_groups rest_lacks,
      lt-ltb (length h.head + length h.tail) 8 h.room,
      h.value,
    )

pub loose_groups_are : (text segments : List ℕ) → loose_groups text ≡ Some segments → IsColonHex text segments × Lacks 46 text
unfolding loose_groups
loose_groups_are text segments e =
    elim (option_cases (cut_at_gap text)) [
      | inl none ↦
          let whole = rw none at e in
          option_and_then_some _ (colon_groups text) _ whole λ groups read kept.
          let (test, same) = cond_some _ _ _ kept in (
            inl (subst (IsGroups true text) same (colon_groups_are true text groups read), ap length (sym same) ∙ eqb-true (length groups) 8 test),
            groups_lack false text groups (colon_groups_are false text groups read),
          )
      | inr cut ↦
          let gapped = rw cut.1 at e in
          option_and_then_some _ (colon_groups cut.0.0) _ gapped λ front read kept.
          option_and_then_some _ (colon_groups cut.0.1) _ kept λ back read_back rest.
          let (test, same) = cond_some _ _ _ rest in
          let split = gap_is text cut.0.0 cut.0.1 cut.1 in
          let head = colon_groups_are false cut.0.0 front read in
          let tail = colon_groups_are false cut.0.1 back read_back in (
            inr (record {
              head_text = cut.0.0;
              tail_text = cut.0.1;
              head = front;
              tail = back;
              spelled = split ∙ sym (append_assoc cut.0.0 (58 ∷ 58 ∷ []) cut.0.1);
              head_groups = head;
              tail_groups = colon_groups_are true cut.0.1 back read_back;
              room = ltb-true (length front + length back) 8 test;
              value = sym same;
            }),
            subst (Lacks 46) (sym split) (Lacks-append 46 cut.0.0 (58 ∷ 58 ∷ cut.0.1) (groups_lack false cut.0.0 front head) (groups_lack false cut.0.1 back tail)),
          )
    ]

pub loose_groups_none : (text : List ℕ) → ((segments : List ℕ) → IsColonHex text segments → Lacks 46 text → ⊥) → loose_groups text ≡ None
loose_groups_none text never =
    elim (option_cases (loose_groups text)) [
      | inl none ↦ none
      | inr some ↦ let (is, lacks) = loose_groups_are text some.0 some.1 in absurd (never some.0 is lacks)
    ]

-- ---- what `Ipv6Addr` reads

module _ {E : Type 0} where
  pub read_none : (text : List ℕ) (parsed : Result Ipv6Addr E) → Parses IsIpv6Text text parsed → None ≡ result_ok parsed → loose_groups text ≡ None
  read_none text (Ok address) h e = absurd (none-some address e)
  read_none text (Err error) h e = loose_groups_none text λ segments is lacks. h (record { segments = segments }) is

  pub read_some : (text : List ℕ) (parsed : Result Ipv6Addr E) (address : Ipv6Addr) → Parses IsIpv6Text text parsed → Some address ≡ result_ok parsed → Lacks 46 text → loose_groups text ≡ Some address.segments
  read_some text (Ok read) address h e lacks =
      let same = same_Some address read e in
      rw same (loose_groups_from text read.segments h lacks)
  read_some text (Err error) address h e lacks = absurd (none-some address (sym e))
