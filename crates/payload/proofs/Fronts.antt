-- Fronts of lists of VRPs that rise.
use Rattle.payload.proofs.Vocabulary.{◌∙◌, ap, ◌≡◌, ℕ, ◌+◌, ◌-◌, ◌≤◌, ◌<◌, true, false, List, [], ◌∷◌, ◌++◌, take, drop, length, get_or, refl, sym, subst, arith, inl, inr, Ordering, All, AllWithin, slice_range, IsPartitionPoint, IsPartitionedBy, is_le, ordering_then, Less, Equal, Greater, both_ways, cases_Bool, cases_lt, get_or_read, take-append-drop, get_or_append_left, get_or-take, get_or-drop, get_or-append-add, get_or_at, length-take-le, length-drop, Prefix, Vrp, contains, contains-between, contains-at_most, AreRising, is_at_most, IsFrontUpTo, HasAllEnclosing, vrp_cmp, le-trans, prefix_order}
use Rattle.std.proofs.Common.{length-append}
use Rattle.std.proofs.lemmas.List.Edits.{get_or-between, length-between}

pub rising-front : (xs ys : List Vrp) → AreRising (xs ++ ys) → AreRising xs
rising-front xs ys rising i j d less within =
    let first : get_or (xs ++ ys) i d ≡ get_or xs i d = get_or_append_left xs ys d i (omega arith) in
    let second : get_or (xs ++ ys) j d ≡ get_or xs j d = get_or_append_left xs ys d j within in
    let whole : vrp_cmp (get_or (xs ++ ys) i d) (get_or (xs ++ ys) j d) ≡ Less = rising i j d less (omega (arith, length-append xs ys)) in
    subst (λ v. vrp_cmp v (get_or xs j d) ≡ Less) first (subst (λ w. vrp_cmp (get_or (xs ++ ys) i d) w ≡ Less) second whole)

pub at_most-trans : (p q r : Prefix) → is_at_most p q ≡ true → is_at_most q r ≡ true → is_at_most p r ≡ true
at_most-trans p q r one two = le-trans prefix_order.total p q r one two

first-less : (o r : Ordering) → ordering_then o r ≡ Less → is_le o ≡ true
first-less Less r h = refl
first-less Equal r h = refl
first-less Greater r h = cc

-- of VRPs in order so are the prefixes
pub less-at_most : (v w : Vrp) → vrp_cmp v w ≡ Less → is_at_most v.prefix w.prefix ≡ true
less-at_most v w h = first-less _ _ h

-- where VRPs rise, those up to a prefix are at the front
pub rising-partitioned : (p : Prefix) (vrps : List Vrp) → AreRising vrps → IsPartitionedBy (λ v. is_at_most v.prefix p) vrps
rising-partitioned p vrps rising i j d le within last =
    elim (cases_lt i j) [
      | inl less ↦
          let v = get_or vrps i d in
          let w = get_or vrps j d in
          at_most-trans v.prefix w.prefix p (less-at_most v w (rising i j d less within)) last
      | inr most ↦ let same : j ≡ i = omega arith in rw (sym same) last
    ]

pub front-up_to : (p : Prefix) (vrps : List Vrp) (n : ℕ) → n ≤ length vrps → IsPartitionPoint (λ v. is_at_most v.prefix p ≡ true) (λ v. is_at_most v.prefix p ≡ false) vrps n → IsFrontUpTo p vrps (take n vrps)
front-up_to p vrps n fits parted = record {
  rest = drop n vrps;
  parts = sym (take-append-drop n vrps);
  at_most = λ k d within.
      let low : k < n = omega (arith, length-take-le n vrps fits) in
      let read : get_or (take n vrps) k d ≡ get_or vrps k d = get_or-take n vrps k d low in
      subst (λ v. is_at_most v.prefix p ≡ true) (sym read) (parted.0 k d (omega arith) low);
  after = λ k d within.
      let high : n + k < length vrps = omega (arith, length-drop n vrps) in
      let read : get_or (drop n vrps) k d ≡ get_or vrps (n + k) d = get_or-drop n vrps k d in
      subst (λ v. is_at_most v.prefix p ≡ false) (sym read) (parted.1 (n + k) d (omega arith) high);
}

pub All-front : {X : Type 0} (P : X → Type 0) (xs ys : List X) → All P (xs ++ ys) → All P xs
All-front P xs ys all k d within = subst P (get_or_append_left xs ys d k within) (all k d (omega (arith, length-append xs ys)))

pub All-back : {X : Type 0} (P : X → Type 0) (xs ys : List X) → All P (xs ++ ys) → All P ys
All-back P xs ys all k d within = subst P (get_or-append-add xs ys k d) (all (length xs + k) d (omega (arith, length-append xs ys)))

-- a VRP that contains `high` and sorts at or before `low` contains `low`, and so sorts at or before `bound`
pub enclosing-from_front : (low high bound : Prefix) (vrps front : List Vrp) → All (λ v. is_at_most v.prefix low ≡ true) vrps → is_at_most low high ≡ true → ((p : Prefix) → contains p low ≡ true → contains p high ≡ true → is_at_most p bound ≡ true) → IsFrontUpTo bound vrps front → HasAllEnclosing high vrps front
enclosing-from_front low high bound vrps front before order round is = record {
  rest = is.rest;
  parts = is.parts;
  others = λ k d within.
      let v = get_or is.rest k d in
      let from : is_at_most v.prefix low ≡ true = All-back (λ v. is_at_most v.prefix low ≡ true) front is.rest (subst (All (λ v. is_at_most v.prefix low ≡ true)) is.parts before) k d within in
      elim (cases_Bool (contains v.prefix high)) [
        | inl both ↦ absurd (both_ways _ (is.after k d within) (round v.prefix (contains-between v.prefix low high both from order) both))
        | inr out ↦ out
      ];
}

-- a prefix sorts at or before each that it contains
pub enclosing-up_to : (p : Prefix) (vrps front : List Vrp) → IsFrontUpTo p vrps front → HasAllEnclosing p vrps front
enclosing-up_to p vrps front is = record {
  rest = is.rest;
  parts = is.parts;
  others = λ k d within.
      let v = get_or is.rest k d in
      elim (cases_Bool (contains v.prefix p)) [
        | inl inside ↦ absurd (both_ways _ (is.after k d within) (contains-at_most v.prefix p inside))
        | inr out ↦ out
      ];
}

-- of VRPs that rise, those before the last sort before it
pub rising-before : (before : List Vrp) (v : Vrp) → AreRising (before ++ v ∷ []) → All (λ w. vrp_cmp w v ≡ Less) before
rising-before before v rising k d within =
    let w = get_or before k d in
    let first : get_or (before ++ v ∷ []) k d ≡ w = get_or_append_left before (v ∷ []) d k within in
    let last : get_or (before ++ v ∷ []) (length before) d ≡ v = get_or_at before v [] d (length before) refl in
    let whole : vrp_cmp (get_or (before ++ v ∷ []) k d) (get_or (before ++ v ∷ []) (length before) d) ≡ Less = rising k (length before) d within (omega (arith, length-append before (v ∷ []))) in
    subst (λ x. vrp_cmp x v ≡ Less) first (subst (λ x. vrp_cmp (get_or (before ++ v ∷ []) k d) x ≡ Less) last whole)

-- and their prefixes at or before its own
pub rising-last : (before : List Vrp) (v : Vrp) → AreRising (before ++ v ∷ []) → All (λ w. is_at_most w.prefix v.prefix ≡ true) before
rising-last before v rising k d within = less-at_most (get_or before k d) v (rising-before before v rising k d within)

-- behind a VRP that sorts after a prefix all do
pub after-onwards : (p : Prefix) (vrps : List Vrp) (i : ℕ) (v : Vrp) → AreRising vrps → i < length vrps → v ≡ get_or vrps i v → is_at_most v.prefix p ≡ false → AllWithin (λ v. is_at_most v.prefix p ≡ false) vrps i (length vrps)
after-onwards p vrps i v rising within read after k d low high =
    let here : v ≡ get_or vrps i d = get_or_read vrps i v within read d in
    elim (cases_Bool (is_at_most (get_or vrps k d).prefix p)) [
      | inl upto ↦ absurd (both_ways _ (subst (λ w. is_at_most w.prefix p ≡ false) here after) (rising-partitioned p vrps rising i k d low high upto))
      | inr out ↦ out
    ]

-- up to a VRP that sorts up to a prefix all do
pub upto-before : (p : Prefix) (vrps : List Vrp) (i : ℕ) (v : Vrp) → AreRising vrps → i < length vrps → v ≡ get_or vrps i v → is_at_most v.prefix p ≡ true → AllWithin (λ v. is_at_most v.prefix p ≡ true) vrps 0 i
upto-before p vrps i v rising within read upto k d low high =
    let here : v ≡ get_or vrps i d = get_or_read vrps i v within read d in
    rising-partitioned p vrps rising k i d (omega arith) within (subst (λ w. is_at_most w.prefix p ≡ true) here upto)

pub range-partitioned : (p : Prefix) (vrps : List Vrp) (start end : ℕ) → end ≤ length vrps → AreRising vrps → IsPartitionedBy (λ v. is_at_most v.prefix p) (slice_range vrps start end)
range-partitioned p vrps start end fits rising i j d le within last =
    let long = length-between vrps start end fits in
    let first : get_or (slice_range vrps start end) i d ≡ get_or vrps (start + i) d = get_or-between vrps start end i d (omega arith) in
    let second : get_or (slice_range vrps start end) j d ≡ get_or vrps (start + j) d = get_or-between vrps start end j d (omega arith) in
    subst (λ v. is_at_most v.prefix p ≡ true) (sym first)
    (rising-partitioned p vrps rising (start + i) (start + j) d (omega arith) (omega arith) (subst (λ v. is_at_most v.prefix p ≡ true) second last))

-- the place in a range round it is the place in the whole
pub front-in_range : (p : Prefix) (vrps : List Vrp) (start end more : ℕ) → end ≤ length vrps → start ≤ end → AllWithin (λ v. is_at_most v.prefix p ≡ true) vrps 0 start → AllWithin (λ v. is_at_most v.prefix p ≡ false) vrps end (length vrps) → more ≤ length (slice_range vrps start end) → IsPartitionPoint (λ v. is_at_most v.prefix p ≡ true) (λ v. is_at_most v.prefix p ≡ false) (slice_range vrps start end) more → IsFrontUpTo p vrps (take (start + more) vrps)
front-in_range p vrps start end more fits order before after within parted =
    let long = length-between vrps start end fits in
    front-up_to p vrps (start + more) (omega arith) (
      (λ k d low high. elim (cases_lt k start) [
        | inl early ↦ before k d low early
        | inr late ↦
            let same : start + (k - start) ≡ k = omega arith in
            let read : get_or (slice_range vrps start end) (k - start) d ≡ get_or vrps k d = get_or-between vrps start end (k - start) d (omega arith) ∙ ap (λ n. get_or vrps n d) same in
            subst (λ v. is_at_most v.prefix p ≡ true) read (parted.0 (k - start) d (omega arith) (omega arith))
      ]),
      (λ k d low high. elim (cases_lt k end) [
        | inl early ↦
            let same : start + (k - start) ≡ k = omega arith in
            let read : get_or (slice_range vrps start end) (k - start) d ≡ get_or vrps k d = get_or-between vrps start end (k - start) d (omega arith) ∙ ap (λ n. get_or vrps n d) same in
            subst (λ v. is_at_most v.prefix p ≡ false) read (parted.1 (k - start) d (omega arith) (omega arith))
        | inr late ↦ after k d late high
      ]),
    )
