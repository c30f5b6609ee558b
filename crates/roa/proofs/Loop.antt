-- Reading the entries of a family one after the other, as a loop does.
use Rattle.roa.proofs.Vocabulary.{◌≡◌, ℕ, zero, suc, ◌-◌, ◌≤◌, ◌<◌, List, [], ◌∷◌, ◌++◌, length, map, Option, Some, None, Ok, Err, refl, sym, ap, ◌∙◌, append_assoc, arith, option_map, ok_or, DecodeFault, NotContent, eq-eqb, ne_eqb, append-nil, length-append, map-append, Family, ◌>>=◌, ReadsAs, Numbers, numbers, entry_at}
use Rattle.addr.specs.declared.roa_prefix.RoaPrefix.{RoaPrefix as Entry}
use Rattle.roa.specs.steps.Reading.{entries_in_octets}

-- what was read before, and what is still read
abbrev pub with_front : List Entry → Option (List Numbers) → Option (List Numbers)
with_front es read = option_map (λ ns. map numbers es ++ ns) read

regroup : (es : List Entry) (e : Entry) (read : Option (List Numbers)) → with_front es (read >>= λ others. Some (numbers e ∷ others)) ≡ with_front (es ++ e ∷ []) read
regroup es e None = refl
regroup es e (Some ns) =
    let parts : map numbers (es ++ e ∷ []) ++ ns ≡ map numbers es ++ (numbers e ∷ ns) = rw (map-append numbers es (e ∷ []), append_assoc (map numbers es) (numbers e ∷ []) ns) refl in
    ap (λ (x : List Numbers). Some x) (sym parts)

pub goes_on : (es : List Entry) (e : Entry) (family : Family) (rest after : List ℕ) (total : Option (List Numbers)) → length es < 64 → (length rest ≡ 0 → ⊥) → entry_at family rest ≡ Some (numbers e, after)
    → with_front es (entries_in_octets (64 - length es) family rest) ≡ total → with_front (es ++ e ∷ []) (entries_in_octets (64 - length (es ++ e ∷ [])) family after) ≡ total
unfolding entries_in_octets
goes_on es e family rest after total lt some found so_far =
    let k : 64 - length es ≡ suc (64 - length (es ++ e ∷ [])) = omega (arith, length-append es (e ∷ []), lt) in
    let one : with_front es (entries_in_octets (64 - length es) family rest) ≡ with_front (es ++ e ∷ []) (entries_in_octets (64 - length (es ++ e ∷ [])) family after) =
    rw (k, ne_eqb (length rest) 0 some, found) (regroup es e (entries_in_octets (64 - length (es ++ e ∷ [])) family after)) in
    sym one ∙ so_far

none_before : (es : List Entry) (read : Option (List Numbers)) → with_front es read ≡ None → read ≡ None
none_before es None e = refl
none_before es (Some ns) e = absurd cc

-- no entry follows, where octets do
pub ends : (old es : List Entry) (family : Family) (rest : List ℕ) (read : Option (List Numbers)) → length es < 64 → (length rest ≡ 0 → ⊥) → entry_at family rest ≡ None
    → with_front es (entries_in_octets (64 - length es) family rest) ≡ with_front old read → read ≡ None
unfolding entries_in_octets
ends old es family rest read lt some none so_far =
    let k : 64 - length es ≡ suc (63 - length es) = omega (arith, lt) in
    let one : with_front es (entries_in_octets (64 - length es) family rest) ≡ None = rw (k, ne_eqb (length rest) 0 some, none) refl in
    none_before old read (sym so_far ∙ one)

-- there is no room for the entry that follows
pub is_full : (old es : List Entry) (family : Family) (rest : List ℕ) (read : Option (List Numbers)) → 64 ≤ length es → (length rest ≡ 0 → ⊥)
    → with_front es (entries_in_octets (64 - length es) family rest) ≡ with_front old read → read ≡ None
unfolding entries_in_octets
is_full old es family rest read full some so_far =
    let k : 64 - length es ≡ 0 = omega (arith, full) in
    let one : with_front es (entries_in_octets (64 - length es) family rest) ≡ None = rw (k, ne_eqb (length rest) 0 some) refl in
    none_before old read (sym so_far ∙ one)

nothing_more : (room : ℕ) (family : Family) (rest : List ℕ) → length rest ≡ 0 → entries_in_octets room family rest ≡ Some []
unfolding entries_in_octets
nothing_more zero family rest none = rw (eq-eqb (length rest) 0 none) refl
nothing_more (suc room) family rest none = rw (eq-eqb (length rest) 0 none) refl

pub is_done : (es : List Entry) (family : Family) (rest : List ℕ) (total : Option (List Numbers)) → length rest ≡ 0
    → with_front es (entries_in_octets (64 - length es) family rest) ≡ total → total ≡ Some (map numbers es)
is_done es family rest total none so_far =
    let one : with_front es (entries_in_octets (64 - length es) family rest) ≡ Some (map numbers es) = rw (nothing_more (64 - length es) family rest none) (ap (λ (x : List Numbers). Some x) (append-nil (map numbers es))) in
    sym so_far ∙ one

-- what a reader's answer was, where `ok_or` made a fault of None
pub read_failed : {X Y : Type 0} (view : X → Y) (r : Option X) (read : Option Y) (fault : DecodeFault) → ReadsAs view r read → Err fault ≡ ok_or r NotContent → (read ≡ None) × (fault ≡ NotContent)
read_failed view None read fault given e = (given, cc)
read_failed view (Some x) read fault given e = absurd cc

pub read_given : {X Y : Type 0} (view : X → Y) (r : Option X) (read : Option Y) (x : X) → ReadsAs view r read → ok_or {E = DecodeFault} r NotContent ≡ Ok x → read ≡ Some (view x)
read_given view None read x given e = absurd cc
read_given view (Some y) read x given e = let same : y ≡ x = cc in given ∙ ap (λ z. Some (view z)) same
