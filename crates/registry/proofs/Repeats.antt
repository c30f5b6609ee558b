-- A walk along a list that looks for a value that occurs twice, and lists in another order.
use Rattle.registry.proofs.Vocabulary.{◌≡◌, ℕ, ◌-◌, ◌<◌, Bool, true, false, ◌||◌, eqb, List, [], ◌∷◌, length, take, drop, get_or, refl, sym, ap, ◌∙◌, arith, list_any, AllByRecursion, IsPermutation, take_all, or_parts, nat_tests, prefix_eq, Family, V4, V6, Prefix, has_repeat}
use Rattle.std.specs.List.{IsDistinct}
use Rattle.std.proofs.lemmas.Map.Keys.{IsDistinct-IsPermutation}
use Rattle.addr.specs.Family.{family_eq}

-- the list without its first value, as a slice pattern has it
pub rest_of : {T : Type 0} (y : T) (ys : List T) → take (length (y ∷ ys) - 1) (drop 1 (y ∷ ys)) ≡ ys
rest_of {T} y ys = take_all (length (y ∷ ys) - 1) ys (omega arith)

-- tests that agree pass the same lists
any_agree : {T : Type 0} (f g : T → Bool) → ((x : T) → f x ≡ g x) → (xs : List T) → list_any f xs ≡ list_any g xs
any_agree f g agree [] = refl
any_agree f g agree (x ∷ xs) =
    ap (λ b. b || list_any f xs) (agree x) ∙ ap (λ b. g x || b) (any_agree f g agree xs)

-- a repeat is of the first value, or after it
has_repeat-first : {T : Type 0} (same : T → T → Bool) → ((x y : T) → same x y ≡ same y x) → (rest others : List T) (x : T) → 0 < length rest
    → x ≡ get_or rest 0 x → others ≡ take (length rest - 1) (drop 1 rest)
    → has_repeat same rest ≡ (list_any (λ y. same y x) others || has_repeat same others)
has_repeat-first same flips [] others x long is tail = absurd (omega arith)
has_repeat-first {T} same flips (y ∷ ys) others x long is tail =
    let same_tail : ys ≡ others = sym (tail ∙ rest_of y ys) in
    let first : list_any (λ z. same y z) ys ≡ list_any (λ z. same z x) ys =
    any_agree (λ z. same y z) (λ z. same z x) (λ z. flips y z ∙ ap (λ (a : T). same z a) (sym is)) ys in
    ap (λ b. b || has_repeat same ys) first ∙ ap (λ (zs : List T). list_any (λ z. same z x) zs || has_repeat same zs) same_tail

pub repeat_passed : {T : Type 0} (same : T → T → Bool) → ((x y : T) → same x y ≡ same y x) → (rest others : List T) (x : T) → 0 < length rest
    → x ≡ get_or rest 0 x → others ≡ take (length rest - 1) (drop 1 rest) → list_any (λ y. same y x) others ≡ false
    → has_repeat same others ≡ has_repeat same rest
repeat_passed same flips rest others x long is tail none =
    sym (has_repeat-first same flips rest others x long is tail ∙ ap (λ b. b || has_repeat same others) none)

pub repeat_found : {T : Type 0} (same : T → T → Bool) → ((x y : T) → same x y ≡ same y x) → (rest others : List T) (x : T) → 0 < length rest
    → x ≡ get_or rest 0 x → others ≡ take (length rest - 1) (drop 1 rest) → list_any (λ y. same y x) others ≡ true
    → has_repeat same rest ≡ true
repeat_found same flips rest others x long is tail some =
    has_repeat-first same flips rest others x long is tail ∙ ap (λ b. b || has_repeat same others) some

none_to : {T : Type 0} (test : T → Bool) (xs : List T) → list_any test xs ≡ false → AllByRecursion (λ y. test y ≡ false) xs
none_to test [] none = tt
none_to test (x ∷ xs) none =
    let both = or_parts (test x) (list_any test xs) none in
    (both.0, none_to test xs both.1)

none_from : {T : Type 0} (test : T → Bool) (xs : List T) → AllByRecursion (λ y. test y ≡ false) xs → list_any test xs ≡ false
none_from test [] all = refl
none_from test (x ∷ xs) all = ap (λ b. b || list_any test xs) all.0 ∙ none_from test xs all.1

pub distinct_to : {T : Type 0} (same : T → T → Bool) (xs : List T) → has_repeat same xs ≡ false → IsDistinct same xs
unfolding IsDistinct
distinct_to same [] none = tt
distinct_to same (x ∷ xs) none =
    let both = or_parts (list_any (λ y. same x y) xs) (has_repeat same xs) none in
    (none_to (λ y. same x y) xs both.0, distinct_to same xs both.1)

pub distinct_from : {T : Type 0} (same : T → T → Bool) (xs : List T) → IsDistinct same xs → has_repeat same xs ≡ false
unfolding IsDistinct
distinct_from same [] distinct = refl
distinct_from same (x ∷ xs) distinct =
    ap (λ b. b || has_repeat same xs) (none_from (λ y. same x y) xs distinct.0) ∙ distinct_from same xs distinct.1

-- another order of values that occur once
pub has_repeat-moved : {T : Type 0} (same : T → T → Bool) → ((x y : T) → same x y ≡ same y x) → (xs ys : List T) → IsPermutation xs ys
    → has_repeat same xs ≡ false → has_repeat same ys ≡ false
has_repeat-moved same flips xs ys moved none =
    distinct_from same ys (IsDistinct-IsPermutation same flips xs ys moved (distinct_to same xs none))

family_eq-flips : (f g : Family) → family_eq f g ≡ family_eq g f
family_eq-flips V4 V4 = refl
family_eq-flips V4 V6 = refl
family_eq-flips V6 V4 = refl
family_eq-flips V6 V6 = refl

pub eqb-flips : (m n : ℕ) → eqb m n ≡ eqb n m
eqb-flips m n = grind (arith, nat_tests)

pub prefix_eq-flips : (p q : Prefix) → prefix_eq p q ≡ prefix_eq q p
prefix_eq-flips p q =
    let family = family_eq-flips p.family q.family in
    let first = eqb-flips p.first q.first in
    let length = eqb-flips p.length q.length in
    cc
