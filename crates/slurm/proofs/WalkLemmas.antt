-- The walk along sorted prefixes finds two of different files that share an address, if there are any.
use Rattle.slurm.proofs.Vocabulary.{◌≡◌, ℕ, zero, suc, ◌+◌, ◌-◌, ◌<◌, ◌≤◌, Bool, true, false, not, List, [], ◌∷◌, length, get_or, take, drop, refl, sym, ap, subst, ◌∙◌, arith, inl, inr, nat_le, if◌then◌else◌, list_any, IsPermutation, IsSortedByKey, is_le, is_lt, bytes_eq, and_from, and_parts, both_ways, cases_Bool, le-leb, leb-true, take_all, list_any-IsPermutation, bytes_eq-Decides, contains, last_of, overlaps, Contains, Overlaps, family_eq, width, Prefix, contains_each, first-last, overlaps_some, le-trans, prefix_order, at_most-ends, block-within, contains-between, contains-ends, ends-contains, first-size, size, NamedPrefix, clash, some_clash, walk}
use Rattle.std.proofs.Math.Seq.{drop-cons}
use Rattle.addr.specs.Order.{prefix_cmp}
use Rattle.addr.proofs.Equality.{equal_family, same_family}
use Rattle.slurm.proofs.PassingItems.{any_in, in_any, In}
use Rattle.slurm.proofs.ReachLemmas.{upwards}

-- ---- prefixes that share an address

-- of two that do, the one that sorts first contains the other
overlaps-contains : (p q : Prefix) → overlaps p q ≡ true → is_le (prefix_cmp p q) ≡ true → contains p q ≡ true
overlaps-contains p q shared up =
    let parts = and_parts (family_eq p.family q.family) _ shared in
    let numbers = and_parts (nat_le p.first (last_of q)) (nat_le q.first (last_of p)) parts.1 in
    let family : p.family ≡ q.family = same_family _ _ parts.0 in
    let start : q.first ≤ last_of p = leb-true _ _ numbers.1 in
    let above : p.first ≤ q.first = elim (at_most-ends p q family up) [ inl less ↦ omega arith | inr tie ↦ omega (arith, tie.0) ] in
    let room : q.first < p.first + size p = omega (arith, start, first-size p) in
    let widths : width p.family ≡ width q.family = ap width family in
    let shorter : p.first ≡ q.first → width q.family - q.length ≤ width p.family - p.length = λ same.
    elim (at_most-ends p q family up) [ inl less ↦ absurd (omega arith) | inr tie ↦ omega (arith, tie.1, widths) ] in
    let within = block-within p.first q.first q.first (width p.family - p.length) (width q.family - q.length) p.aligned q.aligned above (omega arith) room shorter in
    ends-contains p q family above (omega (arith, within, first-size p, first-size q))

contains-overlaps : (p q : Prefix) → contains p q ≡ true → overlaps p q ≡ true
contains-overlaps p q h =
    let ends = contains-ends p q h in
    let within : q.first ≤ last_of q = first-last q in
    and_from _ _ (equal_family p.family q.family ends.family)
    (and_from _ _ (le-leb p.first (last_of q) (omega (arith, ends.first, within))) (le-leb q.first (last_of p) (omega (arith, ends.last, within))))

overlaps-flips : (p q : Prefix) → Overlaps p q → Overlaps q p
overlaps-flips p q shared = (shared.0, shared.2, shared.1)

-- ---- the order

abbrev IsUpTo : NamedPrefix → NamedPrefix → Type 0
IsUpTo x y = is_le (prefix_cmp x.prefix y.prefix) ≡ true

abbrev Rise : List NamedPrefix → Type 0
Rise [] = Unit {0}
Rise (x ∷ xs) = ((y : NamedPrefix) → In y xs → IsUpTo x y) × Rise xs

up_to-all : (x y : NamedPrefix) (rest : List NamedPrefix) → IsUpTo x y → ((z : NamedPrefix) → In z rest → IsUpTo y z) → (z : NamedPrefix) → In z (y ∷ rest) → IsUpTo x z
up_to-all x y rest first later z (inl is) = subst (IsUpTo x) is first
up_to-all x y rest first later z (inr there) = le-trans prefix_order.total x.prefix y.prefix z.prefix first (later z there)

rise-from_sorted : (xs : List NamedPrefix) → IsSortedByKey (λ p. p.prefix) prefix_cmp xs → Rise xs
rise-from_sorted [] sorted = tt
rise-from_sorted (x ∷ []) sorted = (λ y none. absurd none, tt)
rise-from_sorted (x ∷ y ∷ rest) sorted =
    let tail : IsSortedByKey (λ p. p.prefix) prefix_cmp (y ∷ rest) = λ k o low lt.
    let next : suc k + 1 ≡ suc (k + 1) = omega arith in
    let at : is_lt (prefix_cmp (get_or (x ∷ y ∷ rest) (suc k + 1) o).prefix (get_or (y ∷ rest) k o).prefix) ≡ false = sorted (suc k) o (omega arith) (omega (arith, lt)) in
    subst (λ (j : ℕ). is_lt (prefix_cmp (get_or (x ∷ y ∷ rest) j o).prefix (get_or (y ∷ rest) k o).prefix) ≡ false) next at in
    let first : IsUpTo x y = ap is_le (prefix_order.total.antisymm x.prefix y.prefix) ∙ upwards _ (sorted 0 x (omega arith) (omega arith)) in
    let later = rise-from_sorted (y ∷ rest) tail in
    (up_to-all x y rest first later.0, later)

-- ---- where the walk finds nothing

-- what shares an address is of one file
abbrev AreTogether : List NamedPrefix → Type 0
AreTogether xs = (x y : NamedPrefix) → In x xs → In y xs → Overlaps x.prefix y.prefix → x.file ≡ y.file

-- a prefix in the outer one, and of its file, adds nothing
together-inner : (o n : NamedPrefix) (rest : List NamedPrefix) → contains o.prefix n.prefix ≡ true → o.file ≡ n.file → AreTogether (o ∷ rest) → AreTogether (o ∷ n ∷ rest)
together-inner o n rest inside same together x y in_x in_y shared =
    let one = stand x in_x in
    let other = stand y in_y in
    sym one.2 ∙ together one.0 other.0 one.1 other.1 (shared.0, one.3 shared.0 shared.1, other.3 shared.0 shared.2) ∙ other.2
  where
    stand : (z : NamedPrefix) → In z (o ∷ n ∷ rest) → (w : NamedPrefix) × In w (o ∷ rest) × (w.file ≡ z.file) × Contains w.prefix z.prefix
    stand z (inl is) = (z, inl is, refl, λ a h. h)
    stand z (inr (inl is)) = (o, inl refl, same ∙ ap (λ (w : NamedPrefix). w.file) is, subst (λ (w : NamedPrefix). Contains o.prefix w.prefix) is ((contains_each o.prefix n.prefix).0 inside))
    stand z (inr (inr later)) = (z, inr later, refl, λ a h. h)

-- nothing after a prefix that does not lie in the outer one does
together-next : (o n : NamedPrefix) (rest : List NamedPrefix) → Rise (o ∷ n ∷ rest) → contains o.prefix n.prefix ≡ false → AreTogether (n ∷ rest) → AreTogether (o ∷ n ∷ rest)
together-next o n rest rising outside together = by_place
  where
    contained : (z : NamedPrefix) → In z (n ∷ rest) → Overlaps o.prefix z.prefix → contains o.prefix z.prefix ≡ true
    contained z there shared = overlaps-contains o.prefix z.prefix ((overlaps_some o.prefix z.prefix).1 shared) (rising.0 z there)

    alone : (z : NamedPrefix) → In z (n ∷ rest) → Overlaps o.prefix z.prefix → ⊥
    alone z (inl is) shared = both_ways _ outside (ap (λ (w : NamedPrefix). contains o.prefix w.prefix) is ∙ contained z (inl is) shared)
    alone z (inr later) shared = both_ways _ outside (contains-between o.prefix n.prefix z.prefix (contained z (inr later) shared) (rising.0 n (inl refl)) (rising.1.0 z later))

    by_place : AreTogether (o ∷ n ∷ rest)
    by_place x y (inl is_x) (inl is_y) shared = ap (λ (w : NamedPrefix). w.file) (sym is_x ∙ is_y)
    by_place x y (inl is_x) (inr in_y) shared = absurd (alone y in_y (subst (λ (w : NamedPrefix). Overlaps w.prefix y.prefix) (sym is_x) shared))
    by_place x y (inr in_x) (inl is_y) shared = absurd (alone x in_x (subst (λ (w : NamedPrefix). Overlaps w.prefix x.prefix) (sym is_y) (overlaps-flips x.prefix y.prefix shared)))
    by_place x y (inr in_x) (inr in_y) shared = together x y in_x in_y shared

together-one : (o : NamedPrefix) → AreTogether (o ∷ [])
together-one o x y (inl is_x) (inl is_y) shared = ap (λ (w : NamedPrefix). w.file) (sym is_x ∙ is_y)
together-one o x y (inl is_x) (inr none) shared = absurd none
together-one o x y (inr none) in_y shared = absurd none

quiet : (o : NamedPrefix) (ns : List NamedPrefix) → Rise (o ∷ ns) → walk o ns ≡ false → AreTogether (o ∷ ns)
quiet o [] rising none = together-one o
quiet o (n ∷ rest) rising none =
    elim (cases_Bool (contains o.prefix n.prefix)) [
      | inl inside ↦
          let here : (if bytes_eq o.file n.file then walk o rest else true) ≡ false = rw inside at none in
          elim (cases_Bool (bytes_eq o.file n.file)) [
            | inl same ↦
                let later : walk o rest ≡ false = rw same at here in
                together-inner o n rest inside ((bytes_eq-Decides o.file n.file).0 same) (quiet o rest (λ y there. rising.0 y (inr there), rising.1.1) later)
            | inr other ↦ let off : true ≡ false = rw other at here in absurd cc
          ]
      | inr outside ↦
          let later : walk n rest ≡ false = rw outside at none in
          together-next o n rest rising outside (quiet n rest rising.1 later)
    ]

-- ---- what the walk finds

abbrev Clashing : List NamedPrefix → Type 0
Clashing xs = (x y : NamedPrefix) × In x xs × In y xs × (clash x y ≡ true)

wider : (o n x : NamedPrefix) (rest : List NamedPrefix) → In x (o ∷ rest) → In x (o ∷ n ∷ rest)
wider o n x rest (inl is) = inl is
wider o n x rest (inr later) = inr (inr later)

found : (o : NamedPrefix) (ns : List NamedPrefix) → walk o ns ≡ true → Clashing (o ∷ ns)
found o [] some = absurd cc
found o (n ∷ rest) some =
    elim (cases_Bool (contains o.prefix n.prefix)) [
      | inl inside ↦
          let here : (if bytes_eq o.file n.file then walk o rest else true) ≡ true = rw inside at some in
          elim (cases_Bool (bytes_eq o.file n.file)) [
            | inl same ↦
                let later : walk o rest ≡ true = rw same at here in
                let two = found o rest later in
                (two.0, two.1, wider o n two.0 rest two.2, wider o n two.1 rest two.3, two.4)
            | inr other ↦ (o, n, inl refl, inr (inl refl), and_from _ _ (ap not other) (contains-overlaps o.prefix n.prefix inside))
          ]
      | inr outside ↦
          let later : walk n rest ≡ true = rw outside at some in
          let two = found n rest later in
          (two.0, two.1, inr two.2, inr two.3, two.4)
    ]

-- ---- the answer

clashes : (xs : List NamedPrefix) → Clashing xs → some_clash xs ≡ true
clashes xs two = any_in (λ p. list_any (clash p) xs) xs two.0 two.2 (any_in (clash two.0) xs two.1 two.3 two.4)

none-together : (xs : List NamedPrefix) → AreTogether xs → some_clash xs ≡ true → ⊥
none-together xs together some =
    let one = in_any (λ p. list_any (clash p) xs) xs some in
    let other = in_any (clash one.0) xs one.2 in
    let parts = and_parts (not (bytes_eq one.0.file other.0.file)) (overlaps one.0.prefix other.0.prefix) other.2 in
    let same = (bytes_eq-Decides one.0.file other.0.file).1 (together one.0 other.0 one.1 other.1 ((overlaps_some one.0.prefix other.0.prefix).0 parts.1)) in
    let off : not true ≡ true = ap not (sym same) ∙ parts.0 in absurd cc

walk-answers : (o : NamedPrefix) (ns : List NamedPrefix) → Rise (o ∷ ns) → walk o ns ≡ some_clash (o ∷ ns)
walk-answers o ns rising =
    elim (cases_Bool (walk o ns)) [
      | inl some ↦ some ∙ sym (clashes (o ∷ ns) (found o ns some))
      | inr none ↦
          elim (cases_Bool (some_clash (o ∷ ns))) [
            | inl some ↦ absurd (none-together (o ∷ ns) (quiet o ns rising none) some)
            | inr apart ↦ none ∙ sym apart
          ]
    ]

-- from the first prefix along the slice of the others
pub walk_all : (prefixes : List NamedPrefix) (first : NamedPrefix) → 0 < length prefixes → first ≡ get_or prefixes 0 first → IsSortedByKey (λ p. p.prefix) prefix_cmp prefixes → walk first (take (length prefixes - 1) (drop 1 prefixes)) ≡ some_clash prefixes
walk_all [] first some is sorted = absurd (omega arith)
walk_all (p ∷ rest) first some is sorted =
    ap (λ (ns : List NamedPrefix). walk first ns) (take_all (length (p ∷ rest) - 1) rest (omega arith))
    ∙ ap (λ (o : NamedPrefix). walk o rest) is
    ∙ walk-answers p rest (rise-from_sorted (p ∷ rest) sorted)

-- ---- one step

abbrev pub step : NamedPrefix → NamedPrefix → List NamedPrefix → Bool
step o n rest =
    if contains o.prefix n.prefix
    then (if bytes_eq o.file n.file then walk o rest else true) else walk n rest

at-next : (o n : NamedPrefix) (others : List NamedPrefix) (i : ℕ) → i < length others → n ≡ get_or others i n → walk o (drop i others) ≡ step o n (drop (i + 1) others)
at-next o n others i within is =
    let after : suc i ≡ i + 1 = omega arith in
    ap (walk o) (drop-cons others i n within)
    ∙ ap (λ (m : NamedPrefix). walk o (m ∷ drop (suc i) others)) (sym is)
    ∙ ap (λ (j : ℕ). step o n (drop j others)) after

pub walk_outside : (o n : NamedPrefix) (others : List NamedPrefix) (i : ℕ) (inside answer : Bool) → i < length others → n ≡ get_or others i n → inside ≡ contains o.prefix n.prefix → inside ≡ false → walk o (drop i others) ≡ answer → walk n (drop (i + 1) others) ≡ answer
walk_outside o n others i inside answer within is test out so_far =
    let outside : contains o.prefix n.prefix ≡ false = sym test ∙ out in
    let next : step o n (drop (i + 1) others) ≡ walk n (drop (i + 1) others) = rw outside refl in
    sym next ∙ sym (at-next o n others i within is) ∙ so_far

pub walk_inside : (o n : NamedPrefix) (others : List NamedPrefix) (i : ℕ) (inside same answer : Bool) → i < length others → n ≡ get_or others i n → inside ≡ contains o.prefix n.prefix → inside ≡ true → same ≡ bytes_eq o.file n.file → same ≡ true → walk o (drop i others) ≡ answer
    → walk o (drop (i + 1) others) ≡ answer
walk_inside o n others i inside same answer within is test held files one so_far =
    let contained : contains o.prefix n.prefix ≡ true = sym test ∙ held in
    let of_one : bytes_eq o.file n.file ≡ true = sym files ∙ one in
    let next : step o n (drop (i + 1) others) ≡ walk o (drop (i + 1) others) = rw (contained, of_one) refl in
    sym next ∙ sym (at-next o n others i within is) ∙ so_far

pub walk_found : (o n : NamedPrefix) (others : List NamedPrefix) (i : ℕ) (inside same answer : Bool) → i < length others → n ≡ get_or others i n → inside ≡ contains o.prefix n.prefix → inside ≡ true → same ≡ bytes_eq o.file n.file → same ≡ false → walk o (drop i others) ≡ answer
    → true ≡ answer
walk_found o n others i inside same answer within is test held files two so_far =
    let contained : contains o.prefix n.prefix ≡ true = sym test ∙ held in
    let of_two : bytes_eq o.file n.file ≡ false = sym files ∙ two in
    let next : step o n (drop (i + 1) others) ≡ true = rw (contained, of_two) refl in
    sym next ∙ sym (at-next o n others i within is) ∙ so_far

pub walk_ended : (o : NamedPrefix) (others : List NamedPrefix) (i : ℕ) (answer : Bool) → length others ≤ i → walk o (drop i others) ≡ answer → false ≡ answer
walk_ended o others i answer end so_far = ap (walk o) (sym (drop_all others i end)) ∙ so_far
  where
    drop_all : (xs : List NamedPrefix) (j : ℕ) → length xs ≤ j → drop j xs ≡ []
    drop_all [] zero end = refl
    drop_all [] (suc j) end = refl
    drop_all (x ∷ xs) zero end = absurd (omega (arith, end))
    drop_all (x ∷ xs) (suc j) end = drop_all xs j (omega (arith, end))

-- ---- the same prefixes in another order

pub some_clash-moved : (xs ys : List NamedPrefix) → IsPermutation xs ys → some_clash xs ≡ some_clash ys
some_clash-moved xs ys moved =
    (λ i. list_any (λ p. list_any-IsPermutation (clash p) xs ys moved i) xs)
    ∙ list_any-IsPermutation (λ p. list_any (clash p) ys) xs ys moved
