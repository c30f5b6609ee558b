-- What is loaded for hypothetical changes, number by number.
use Rattle.store.proofs.Vocabulary.{◌≡◌, ℕ, ◌+◌, ◌<◌, ◌≤◌, ◌==◌, ◌&&◌, ◌||◌, Bool, true, false, cond, List, [], ◌∷◌, ◌++◌, map, filter, drop, length, append_assoc, append-nil, get_or, is_lt, nat_cmp, IsPermutation, IsSortedByKey, Option, Some, None, is_some, not, suc, zero, inl, inr, ◌⊎◌, Less, refl, sym, ap, subst, ◌∙◌, arith, AllByRecursion, list_any, eq_by_cmp, cases_Bool, and_from, and_parts, eq-eqb, eqb-true, false≢true, nat_tests, drop_more, length-filter_both, IsPermutation-append, IsPermutation-cons, IsPermutation-middle, IsPermutation-refl, IsPermutation-sym, IsPermutation-trans, length_permutation, Database, IsDatabase, Has, all_from, has_filtered, some_from, some_has, IsAscending, all_weaker, all-permutation, ascending-append, filter_none, filter_same, all_of, CharterSets, Auth, Granted, MOST_AUTHORIZATIONS, HolderRows, looked_for, looks_for, Rows, AllRows, gives_some, desk_tables, TablesHold, items_if_any, EntryRow, list_any-map, ClaimsDiffer, AreCounted, AreGrants, AreInOrder, HaveSame, auths_held, created_shown, IsForChanges, AreOfNumbers, asks_for, has_number, some_asks_for}
use Rattle.std.specs.Global.{Vec}
use Rattle.std.specs.List.Sorted.{IsStrictlySortedBy}
use Rattle.std.proofs.Math.Bool.{or-false}
use Rattle.std.proofs.lemmas.List.Folds.{list_any-append}
use Rattle.registry.specs.declared.command.Proposed.{Proposed}
use Rattle.registry.specs.declared.command.Proposed.TheVariants.{Create, Withdraw}
use Rattle.store.proofs.HeldOnce.{one_of_number}

or_assoc : (a b c : Bool) → ((a || b) || c) ≡ (a || (b || c))
or_assoc true b c = refl
or_assoc false b c = refl

-- ---- the numbers that the rules look for

-- numbers with those of rows
pub has_pushed : (numbers : List ℕ) (rows : List EntryRow) (n : ℕ) → has_number (numbers ++ map (λ (r : EntryRow). r.number) rows) n ≡ (has_number numbers n || list_any (λ (r : EntryRow). n == r.number) rows)
has_pushed numbers rows n = list_any-append (λ m. n == m) numbers (map (λ (r : EntryRow). r.number) rows) ∙ ap (λ b. has_number numbers n || b) (list_any-map (λ m. n == m) (λ (r : EntryRow). r.number) rows)

-- so many were found, and one more is, of what remains
pub one_found_more : (before one after rest left all : Bool) → (before || rest) ≡ all → after ≡ (before || one) → rest ≡ (one || left) → (after || left) ≡ all
one_found_more before one after rest left all so_far now split =
    ap (λ b. b || left) now ∙ or_assoc before one left ∙ ap (λ b. before || b) (sym split) ∙ so_far

-- nothing remains
pub all_found : (now left all : Bool) → left ≡ false → (now || left) ≡ all → now ≡ all
all_found now left all none so_far = sym (or-false now) ∙ ap (λ b. now || b) (sym none) ∙ so_far

-- what remains of changes to ask for
pub asks_from : (changes : List Proposed) (i : ℕ) (change : Proposed) (auths : List Auth) (n : ℕ) → i < length changes → change ≡ get_or changes i change
    → some_asks_for (drop i changes) auths n ≡ (asks_for change auths n || some_asks_for (drop (i + 1) changes) auths n)
asks_from changes i change auths n low is =
    ap (λ l. some_asks_for l auths n) (drop_more changes i change low) ∙ ap (λ c. asks_for c auths n || some_asks_for (drop (i + 1) changes) auths n) (sym is)

equal_number : (m n : ℕ) → eq_by_cmp nat_cmp m n ≡ (m == n)
equal_number m n = grind (arith, nat_tests)

-- numbers that compare alike are the same
pub has_sorted : (numbers sorted : List ℕ) → ((n : ℕ) → list_any (eq_by_cmp nat_cmp n) sorted ≡ list_any (eq_by_cmp nat_cmp n) numbers) → (n : ℕ) → has_number sorted n ≡ has_number numbers n
has_sorted numbers sorted members n = sym (alike sorted) ∙ members n ∙ alike numbers
  where
    alike : (ms : List ℕ) → list_any (eq_by_cmp nat_cmp n) ms ≡ has_number ms n
    alike ms = λ i. list_any (λ m. equal_number n m i) ms

-- no number is of two authorizations
abbrev pub AreNumberedOnce : List Auth → Type 0
AreNumberedOnce auths = (x y : Auth) → Has auths x → Has auths y → x.number ≡ y.number → x ≡ y

-- no two of a holder have one
pub numbered_once : ClaimsDiffer → (charter : CharterSets) (rows : AllRows) (db : Database) → IsDatabase db → db.schema.tables ≡ desk_tables → TablesHold charter rows db.trees → (h : List ℕ) → AreNumberedOnce (auths_held (rows.of_holder h))
numbered_once differ charter rows db sound tables holds h = go (rows.of_holder h) refl
  where
    go : (found : Option Rows) → rows.of_holder h ≡ found → AreNumberedOnce (auths_held found)
    go None is x y has_x has_y same = absurd has_x
    go (Some r) is x y has_x has_y same = one_of_number differ charter rows db sound tables holds h r x y is has_x has_y same

-- then an authorization passes a test where one of its number does, and the rules look for it where they look for its number
module _ (auths : List Auth) (once : AreNumberedOnce auths) (x : Auth) (there : Has auths x) where
  pub passes_by_number : (passes : Auth → Bool) → list_any (λ (y : Auth). (x.number == y.number) && passes y) auths ≡ passes x
  passes_by_number passes =
      let such = λ (y : Auth). (x.number == y.number) && passes y in
      elim (cases_Bool (list_any such auths)) [
        | inl some ↦
            let (y, has, is) = some_has such auths some in
            let both = and_parts (x.number == y.number) (passes y) is in
            let same : x ≡ y = once x y there has (eqb-true _ _ both.0) in
            some ∙ sym (ap passes same ∙ both.1)
        | inr none ↦ elim (cases_Bool (passes x)) [
          | inl is ↦ absurd (false≢true (sym none ∙ some_from such auths x there (and_from (x.number == x.number) (passes x) (eq-eqb x.number x.number refl) is)))
          | inr not_so ↦ none ∙ sym not_so
        ]
      ]

  asks_by_number : (change : Proposed) → asks_for change auths x.number ≡ looks_for change x
  asks_by_number (Create terms) = passes_by_number (λ (y : Auth). gives_some y terms.asn terms.entries)
  asks_by_number (Withdraw m) = refl

  some_asks_by_number : (changes : List Proposed) → some_asks_for changes auths x.number ≡ looked_for changes x
  some_asks_by_number changes = λ i. list_any (λ change. asks_by_number change i) changes

-- ---- the authorizations of numbers

abbrev Rise : List Auth → Type 0
Rise = IsAscending (λ (x y : Auth). x.number ≤ y.number)

-- those that pass either test are those that pass the one and those that pass the other
passes_either : {X : Type 0} (p q : X → Bool) → ((x : X) → p x ≡ true → q x ≡ false) → (xs : List X) → IsPermutation (filter (λ x. p x || q x) xs) (filter p xs ++ filter q xs)
passes_either p q apart [] = IsPermutation-refl []
passes_either {X = X} p q apart (x ∷ xs) = go (p x) (q x) (apart x) (passes_either p q apart xs)
  where
    go : (b c : Bool) → (b ≡ true → c ≡ false) → IsPermutation (filter (λ x. p x || q x) xs) (filter p xs ++ filter q xs)
        → IsPermutation (cond (b || c) (x ∷ filter (λ x. p x || q x) xs) (filter (λ x. p x || q x) xs)) (cond b (x ∷ filter p xs) (filter p xs) ++ cond c (x ∷ filter q xs) (filter q xs))
    go true true not_both rest = absurd (false≢true (sym (not_both refl)))
    go true false not_both rest = IsPermutation-cons x _ _ rest
    go false true not_both rest = IsPermutation-trans _ _ _ (IsPermutation-cons x _ _ rest) (IsPermutation-sym _ _ (IsPermutation-middle (filter p xs) x (filter q xs)))
    go false false not_both rest = rest

rise_alike : (n : ℕ) (xs : List Auth) → AllByRecursion (λ (x : Auth). x.number ≡ n) xs → Rise xs
rise_alike n [] alike = tt
rise_alike n (x ∷ xs) alike = (all_weaker (λ (y : Auth). y.number ≡ n) (λ (y : Auth). x.number ≤ y.number) (λ y is. omega (arith, is, alike.0)) xs alike.1, rise_alike n xs alike.1)

-- a number below all of a list is not in it
not_above : (n : ℕ) (rest : List ℕ) → AllByRecursion (λ m. n < m) rest → (k : ℕ) → k ≤ n → has_number rest k ≡ false
not_above n [] above k low = refl
not_above n (m ∷ rest) above k low =
    let other : (k == m) ≡ false = (let first : n < m = above.0 in grind (arith, nat_tests, first, low)) in
    ap (λ b. b || has_number rest k) other ∙ not_above n rest above.1 k low

above_of : (n : ℕ) (rest : List ℕ) → AllByRecursion (λ m. n < m) rest → (k : ℕ) → has_number rest k ≡ true → n ≤ k
above_of n [] above k has = absurd (false≢true has)
above_of n (m ∷ rest) above k has =
    let first : n < m = above.0 in
    elim (cases_Bool (k == m)) [
      | inl is ↦ (let same : k ≡ m = eqb-true _ _ is in omega (arith, same, first))
      | inr other ↦ above_of n rest above.1 k (sym (ap (λ b. b || has_number rest k) other) ∙ has)
    ]

-- those of a number below all others come first
first_of_numbers : (auths : List Auth) (n : ℕ) (rest : List ℕ) (numbered later : List Auth) → AllByRecursion (λ m. n < m) rest → IsPermutation (filter (λ (x : Auth). x.number == n) auths) numbered
    → AreOfNumbers rest auths later → AreOfNumbers (n ∷ rest) auths (numbered ++ later)
first_of_numbers auths n rest numbered later above found of =
    let is = λ (x : Auth). x.number == n in
    let in_rest = λ (x : Auth). has_number rest x.number in
    let alike : AllByRecursion (λ (x : Auth). x.number ≡ n) numbered =
    all-permutation _ _ _ found (all_from _ (filter is auths) (λ x has. eqb-true _ _ (has_filtered is auths x has).1)) in
    let beyond : AllByRecursion (λ (x : Auth). n ≤ x.number) later =
    all-permutation _ _ _ of.same (all_from _ (filter in_rest auths) (λ x has. above_of n rest above x.number (has_filtered in_rest auths x has).1)) in
    record {
      same =
          IsPermutation-trans _ _ _
          (passes_either is in_rest (λ x same. not_above n rest above x.number (let e : x.number ≡ n = eqb-true _ _ same in omega (arith, e))) auths)
          (IsPermutation-append _ _ _ _ found of.same);
      rising =
          ascending-append (λ (x y : Auth). x.number ≤ y.number) numbered later (rise_alike n numbered alike) of.rising
          (all_weaker (λ (x : Auth). x.number ≡ n) _ (λ x number. all_weaker (λ (y : Auth). n ≤ y.number) _ (λ y low. omega (arith, number, low)) later beyond) numbered alike);
    }

-- no number, no authorization
of_no_number : (auths : List Auth) → AreOfNumbers [] auths []
of_no_number auths = record { same = subst (λ l. IsPermutation l []) (sym (filter_none _ auths (all_of _ (λ _. refl) auths))) (IsPermutation-refl []); rising = tt }

-- the numbers from one on
pub rising_from : (numbers : List ℕ) (i n : ℕ) → i < length numbers → n ≡ get_or numbers i 0 → IsStrictlySortedBy nat_cmp (drop i numbers) → AllByRecursion (λ m. n < m) (drop (i + 1) numbers) × IsStrictlySortedBy nat_cmp (drop (i + 1) numbers)
unfolding IsStrictlySortedBy
rising_from numbers i n low is rising =
    let from = drop_more numbers i 0 low ∙ ap (λ m. m ∷ drop (i + 1) numbers) (sym is) in
    let split = subst (IsStrictlySortedBy nat_cmp) from rising in
    (all_weaker (λ m. nat_cmp n m ≡ Less) (λ m. n < m) (λ m less. grind (arith, less)) (drop (i + 1) numbers) split.0, split.1)

-- one number more
pub numbers_more : (auths : List Auth) (numbers : List ℕ) (i n : ℕ) (numbered later : List Auth) → i < length numbers → n ≡ get_or numbers i 0 → IsStrictlySortedBy nat_cmp (drop i numbers)
    → IsPermutation (filter (λ (x : Auth). x.number == n) auths) numbered → AreOfNumbers (drop (i + 1) numbers) auths later → AreOfNumbers (drop i numbers) auths (numbered ++ later)
numbers_more auths numbers i n numbered later low is rising found of =
    subst (λ l. AreOfNumbers l auths (numbered ++ later)) (sym (drop_more numbers i 0 low ∙ ap (λ m. m ∷ drop (i + 1) numbers) (sym is)))
    (first_of_numbers auths n (drop (i + 1) numbers) numbered later (rising_from numbers i n low is rising).0 found of)

pub numbers_then : (numbers : List ℕ) (auths before numbered later after : List Auth) → after ≡ before ++ numbered → AreOfNumbers numbers auths (before ++ (numbered ++ later)) → AreOfNumbers numbers auths (after ++ later)
numbers_then numbers auths before numbered later after is of = subst (AreOfNumbers numbers auths) (sym (append_assoc before numbered later) ∙ ap (λ l. l ++ later) (sym is)) of

-- none is left
pub none_later : (numbers left : List ℕ) (auths loaded : List Auth) → left ≡ [] → ((later : List Auth) → AreOfNumbers left auths later → AreOfNumbers numbers auths (loaded ++ later)) → AreOfNumbers numbers auths loaded
none_later numbers left auths loaded none of = subst (AreOfNumbers numbers auths) (append-nil loaded) (of [] (subst (λ l. AreOfNumbers l auths []) (sym none) (of_no_number auths)))

-- ---- in order

not_below : (m n : ℕ) → m ≤ n → is_lt (nat_cmp n m) ≡ false
not_below m n low = grind (arith, low)

pub in_order : (xs : List Auth) → Rise xs → IsSortedByKey (λ (x : Auth). x.number) nat_cmp xs
in_order [] rise k d low high = absurd (omega (arith, high))
in_order (x ∷ []) rise k d low high = absurd (omega (arith, high))
in_order (x ∷ y ∷ xs) rise zero d low high = not_below x.number y.number rise.0.0
in_order (x ∷ y ∷ xs) rise (suc k) d low high =
    subst (λ (m : ℕ). is_lt (nat_cmp (get_or (x ∷ y ∷ xs) m d).number (get_or (x ∷ y ∷ xs) (suc k) d).number) ≡ false) {x = suc (k + 1)} {y = suc k + 1} (omega arith) (in_order (y ∷ xs) rise.1 k d (omega arith) (omega (arith, high)))

-- the authorizations of all numbers that are asked for are those that the rules look for
pub all_looked_for : (changes : List Proposed) (auths : List Auth) (numbers : List ℕ) (loaded : List Auth) → AreNumberedOnce auths → ((n : ℕ) → has_number numbers n ≡ some_asks_for changes auths n) → AreOfNumbers numbers auths loaded
    → AreInOrder (λ (x : Auth). x.number) (filter (looked_for changes) auths) loaded
all_looked_for changes auths numbers loaded once asked of =
    let same = filter_same (λ (x : Auth). has_number numbers x.number) (looked_for changes) auths (all_from _ auths (λ x there. asked x.number ∙ some_asks_by_number auths once x there changes)) in
    (subst (λ l. IsPermutation l loaded) same of.same, in_order loaded of.rising)

-- ---- what is loaded of a holder

pub no_part : (changes : List Proposed) (o : Option Rows) → AreCounted o None → IsForChanges changes o (record { rows = None; left_out = 0 })
no_part changes None counted = record {
  counted = counted;
  holdings = record { registered = refl; runs = tt };
  auths = (IsPermutation-refl [], in_order [] tt);
  left = inl refl;
}
no_part changes (Some r) counted = absurd (let c = counted.created in cc)

is_registered : (o : Option Rows) (part : HolderRows) → AreCounted o (Some part) → true ≡ is_some o
is_registered None part counted = absurd (let c = counted.created in cc)
is_registered (Some r) part counted = refl

-- no more pass a test than there are
few_pass : {X : Type 0} (p : X → Bool) (xs : List X) → length (filter p xs) ≤ length xs
few_pass p xs = omega (arith, length-filter_both p (λ x. not (p x)) (λ x. refl) xs)

pub some_part : (changes : List Proposed) (o : Option Rows) (counted part : HolderRows) (left_out more loaded : ℕ) → part.grants ≡ counted.grants → part.granted ≡ counted.granted → part.created ≡ counted.created → more ≡ length changes
    → loaded ≡ length part.auths.items → AreCounted o (Some counted) → HaveSame (items_if_any (λ r. r.holdings) o) part.holdings → AreInOrder (λ (x : Auth). x.number) (filter (looked_for changes) (auths_held o)) part.auths.items
    → (loaded ≤ length (auths_held o) → (left_out + loaded ≡ length (auths_held o)) ⊎ ((left_out ≡ 0) × (counted.created + more < MOST_AUTHORIZATIONS)))
    → IsForChanges changes o (record { rows = Some part; left_out = left_out })
some_part changes o counted part left_out more loaded grants granted created as_many as_loaded are runs auths left =
    let held = auths_held o in
    let shown = created_shown o counted are in
    let few : loaded ≤ length held = omega (arith, as_loaded, length_permutation _ _ auths.0, few_pass (looked_for changes) held) in
    record {
      counted = record {
        grants = subst (λ (g : Vec Granted). AreGrants o g.items) (sym grants) are.grants;
        granted = ap Some granted ∙ are.granted;
        created = ap Some created ∙ are.created;
      };
      holdings = record { registered = is_registered o counted are; runs = runs };
      auths = auths;
      left = elim (left few) [ inl all ↦ inl (omega (arith, all, as_loaded)) | inr none ↦ inr (none.0, omega (arith, none.1, as_many, shown)) ];
    }
