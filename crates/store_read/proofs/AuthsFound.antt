-- The authorizations of a holder, out of its claims and the rows of its entries.
use Rattle.store_read.proofs.Vocabulary.{◌≡◌, ◌≢◌, ℕ, suc, ◌<◌, ◌^◌, false, List, [], ◌∷◌, map, flat_map, get_or, filter, ◌+◌, true, Option, Some, None, Ordering, Less, refl, sym, ap, subst, ◌∙◌, arith, is_lt, is_eq, nat_cmp, IsPermutation, IsSorted, IsSortedByKey, int_cmp, pos, AllPairs, Err, IfOk, MatchOption, Result, ok_or, AllByRecursion, on, ints, false_from_ne_true, get_or-map, length-map, map-id, IsPermutation-map, IsPermutation-sym, Database, IsDatabase, Text, Row, column, value_cmp, value_cmp-Int, all_from, contains_had, mapped_has, Trees, IsAscending, all-map, ascending-map, ascending_weaker, flat_map-map, map-map, below_widest, first_below, CharterSets, AreEntries, Rows, AllRows, Auth, Claim, EntryRow, AreAuths, NumbersRise, claim_of, entry_rows_of, claim_cells, claim_row, entry_cells, number_cell, claim_entry, group_rows, claim, contents, desk_tables, TablesHold, claim_part, items_if_any, part_rows, by_entry, entries_alike, names, ClaimsDiffer, number_columns}
use Rattle.store_tables.specs.declared.groups.Group.{Group}
use Rattle.store_tables.specs.steps.Ungrouping.{auth_of, group_of}
use Rattle.store_tables.proofs.GroupNeeds.{claims_grouped_once}
use Rattle.store_tables.proofs.GroupOrder.{claim_cmp, claim_orders, entry_row_cmp, groups_in_order}
use Rattle.store_tables.proofs.Ungrouping.{grouped, ungrouped}

-- ---- lists in order

-- by the first column
abbrev pub by_first : Row → Row → Ordering
by_first = on (λ r. column r 0) value_cmp

numbers_rise : (m n : ℕ) → is_lt (int_cmp (pos m) (pos n)) ≡ is_lt (nat_cmp m n)
numbers_rise m n = grind (arith, ints)

-- what rises by a column with its number rises by its number
pub by_number :
    {X : Type 0} (cells : X → Row) (number : X → ℕ) → ((x : X) → column (cells x) 0 ≡ number_cell (number x)) → (xs : List X)
    → IsSorted by_first (map cells xs) → IsSortedByKey number nat_cmp xs
by_number cells number is xs sorted k d low high =
    let later = get_or xs (k + 1) d in
    let earlier = get_or xs k d in
    let at = sorted k (cells d) low (omega (arith, length-map xs cells)) in
    let numbers : value_cmp (column (cells later) 0) (column (cells earlier) 0) ≡ int_cmp (pos (number later)) (pos (number earlier)) = (λ i. value_cmp (is later i) (is earlier i)) ∙ value_cmp-Int (pos (number later)) (pos (number earlier)) in
    sym (numbers_rise (number later) (number earlier)) ∙ ap is_lt (sym numbers)
    ∙ (λ i. is_lt (by_first (sym (get_or-map cells xs (k + 1) d (cells d) high) i) (sym (get_or-map cells xs k d (cells d) (omega (arith, high))) i))) ∙ at

-- values are in the order of their cells
sorted_values :
    {X : Type 0} (cells : X → Row) (by_cells : Row → Row → Ordering) (cmp : X → X → Ordering)
    → ((x y : X) → by_cells (cells x) (cells y) ≡ cmp x y) → (xs : List X) → IsSorted by_cells (map cells xs) → IsSorted cmp xs
sorted_values cells by_cells cmp alike xs sorted k d low high =
    let later = get_or xs (k + 1) d in
    let earlier = get_or xs k d in
    let at = sorted k (cells d) low (omega (arith, length-map xs cells)) in
    ap is_lt (sym (alike later earlier))
    ∙ (λ i. is_lt (by_cells (sym (get_or-map cells xs (k + 1) d (cells d) high) i) (sym (get_or-map cells xs k d (cells d) (omega (arith, high))) i))) ∙ at

first_bounded : (r : EntryRow) → r.entry.prefix.first < 2 ^ 128
first_bounded r = let p = r.entry.prefix in below_widest p.family p.first (first_below p)

rows_sorted : (rows : List EntryRow) → IsSorted by_entry (map entry_cells rows) → IsSorted entry_row_cmp rows
rows_sorted = sorted_values entry_cells by_entry entry_row_cmp (λ r s. entries_alike r s (first_bounded r) (first_bounded s))

-- ---- an authorization as its claim with its entries

abbrev pub HasEntries : Auth → Type 0
HasEntries x = AreEntries x.entries

back_from_groups : (xs : List Auth) → map auth_of (map group_of xs) ≡ xs
back_from_groups xs = map-map auth_of group_of xs ∙ map-id xs

-- two lists are those of no other authorizations
auths_once : (claims : List Claim) (rows : List EntryRow) (one other : List Auth) → NumbersRise claims → AreAuths claims rows one → AreAuths claims rows other → one ≡ other
auths_once claims rows one other rise first second =
    let same = claims_grouped_once claims rows (map group_of one) (map group_of other) rise (grouped claims rows one first) (grouped claims rows other second) in
    sym (back_from_groups one) ∙ ap (map auth_of) same ∙ back_from_groups other

-- ---- the numbers of a holder's authorizations

less_number : (m n : ℕ) → nat_cmp m n ≡ Less → m < n
less_number m n less = grind (arith, less)

module _ (h : List ℕ) where
  abbrev pub key_of : Auth → Row
  key_of x = number_columns (claim_row h (claim_of x))

  same_key : (x y : Auth) → is_eq (claim_cmp (claim_of x) (claim_of y)) ≡ true → key_of x ≡ key_of y
  same_key x y tied = let number : x.number ≡ y.number = grind (arith, tied) in ap (λ n. Text h ∷ number_cell n ∷ []) number

  abbrev AreUntied : Group Claim → Group Claim → Type 0
  AreUntied g k = is_eq (claim_cmp g.claim k.claim) ≡ false

  first_untied : (x : Auth) (xs : List Auth) → AllPairs ◌≢◌ (map key_of (x ∷ xs)) → AllByRecursion (λ y. AreUntied (group_of x) (group_of y)) xs
  first_untied x xs apart = all_from (λ y. AreUntied (group_of x) (group_of y)) xs (λ y has. false_from_ne_true _ (λ tied.
      let later = contains_had (map key_of xs) (key_of y) (mapped_has key_of xs y has) in
      apart 0 (suc later.0) (key_of y) (omega arith) (omega (arith, later.1)) (same_key x y tied ∙ sym later.2)))

  untied : (xs : List Auth) → AllPairs ◌≢◌ (map key_of xs) → IsAscending AreUntied (map group_of xs)
  untied [] apart = tt
  untied (x ∷ xs) apart =
      (all-map (AreUntied (group_of x)) group_of xs (first_untied x xs apart), untied xs (λ i j d below within. apart (suc i) (suc j) d (omega (arith, below)) (omega (arith, within))))

-- ---- what the two lists of a holder are

-- the authorizations of a holder in the order of their numbers
record InOrder (xs : List Auth) (claims : List Claim) (rows : List EntryRow) : Type 0 where
  pub auths : List Auth
  pub same : IsPermutation xs auths
  pub rise : NumbersRise claims
  pub are : AreAuths claims rows auths

module _ (h : List ℕ) (xs : List Auth) (claims : List Claim) (rows : List EntryRow) (have : AllByRecursion HasEntries xs) (apart : AllPairs ◌≢◌ (map (key_of h) xs))
    (same_claims : IsPermutation (map claim_of xs) claims) (claims_sorted : IsSorted by_first (map claim_cells claims))
    (same_rows : IsPermutation (flat_map entry_rows_of xs) rows) (sorted : IsSorted by_entry (map entry_cells rows)) where
  put_in_order : InOrder xs claims rows
  put_in_order =
      let held = map group_of xs in
      let it = groups_in_order claim_entry claim_cmp entry_row_cmp claim_orders held claims rows (untied h xs apart)
      (all-map (λ (g : Group Claim). AreEntries g.entries) group_of xs have)
      (subst (λ l. IsPermutation l claims) (sym (map-map (λ (g : Group Claim). g.claim) group_of xs)) same_claims)
      (by_number claim_cells (λ (c : Claim). c.number) (λ _. refl) claims claims_sorted)
      (subst (λ l. IsPermutation l rows) (sym (flat_map-map (group_rows claim_entry) group_of xs)) same_rows)
      (rows_sorted rows sorted) in
      let less = ascending_weaker (λ (g k : Group Claim). claim_cmp g.claim k.claim ≡ Less) (λ (g k : Group Claim). g.claim.number < k.claim.number) (λ g k before. less_number g.claim.number k.claim.number before) it.groups it.rise in
      record {
        auths = map auth_of it.groups;
        same = subst (λ l. IsPermutation l (map auth_of it.groups)) (back_from_groups xs) (IsPermutation-map auth_of _ _ it.same);
        rise = subst NumbersRise it.are.same_claims (ascending-map (λ (c d : Claim). c.number < d.number) (λ (g : Group Claim). g.claim) it.groups less);
        are = ungrouped claims rows it.groups it.are;
      }

  -- the authorizations of the two lists are those of the holder, by rising number
  pub in_order : (auths : List Auth) → AreAuths claims rows auths → IsPermutation xs auths × IsSortedByKey (λ (x : Auth). x.number) nat_cmp auths
  in_order auths are =
      let it = put_in_order in
      let cells : map claim_cells claims ≡ map (λ (x : Auth). claim_cells (claim_of x)) auths = ap (map claim_cells) (sym are.same_claims) ∙ map-map claim_cells claim_of auths in (
        subst (IsPermutation xs) (auths_once claims rows it.auths auths it.rise it.are are) it.same,
        by_number (λ (x : Auth). claim_cells (claim_of x)) (λ (x : Auth). x.number) (λ _. refl) auths (subst (IsSorted by_first) cells claims_sorted),
      )

  -- and there are such
  pub are_some : (NumbersRise claims → (auths : List Auth) → ¬ AreAuths claims rows auths) → ⊥
  are_some none = let it = put_in_order in none it.rise it.auths it.are

-- ---- over the tables

-- each authorization of a holder has entries
pub held_entries : (charter : CharterSets) (all : AllRows) (trees : Trees) → TablesHold charter all trees → (h : List ℕ) → AllByRecursion HasEntries (items_if_any (λ (r : Rows). r.auths) (all.of_holder h))
held_entries charter all trees holds h = go (all.of_holder h) refl
  where
    go : (o : Option Rows) → all.of_holder h ≡ o → AllByRecursion HasEntries (items_if_any (λ (r : Rows). r.auths) o)
    go None is = tt
    go (Some r) is = holds.have_entries h r is

-- no two authorizations of a holder have one number
numbers_differ :
    ClaimsDiffer → (charter : CharterSets) (all : AllRows) (db : Database) → IsDatabase db → db.schema.tables ≡ desk_tables → TablesHold charter all db.trees
    → (h : List ℕ) → AllPairs ◌≢◌ (map (key_of h) (items_if_any (λ (r : Rows). r.auths) (all.of_holder h)))
numbers_differ differ charter all db sound tables holds h =
    differ db sound tables (holds.whole claim.tree refl) (names claim_part.place h) _
    (subst (IsPermutation (map number_columns (filter (names claim_part.place h) (contents (db.trees claim.tree))))) (go (all.of_holder h))
    (IsPermutation-map number_columns _ _ (IsPermutation-sym _ _ (holds.claims.each h))))
  where
    go : (o : Option Rows) → map number_columns (part_rows claim_part h o) ≡ map (key_of h) (items_if_any (λ (r : Rows). r.auths) o)
    go None = refl
    go (Some r) = map-map number_columns (λ x. claim_row h (claim_of x)) r.auths

module _
    (differ : ClaimsDiffer) (charter : CharterSets) (all : AllRows) (db : Database) (sound : IsDatabase db) (tables : db.schema.tables ≡ desk_tables)
    (holds : TablesHold charter all db.trees) (h : List ℕ) (claims : List Claim) (rows : List EntryRow)
    (same_claims : IsPermutation (items_if_any (λ (r : Rows). map claim_of r.auths) (all.of_holder h)) claims) (claims_sorted : IsSorted by_first (map claim_cells claims))
    (same_rows : IsPermutation (items_if_any (λ (r : Rows). flat_map entry_rows_of r.auths) (all.of_holder h)) rows) (sorted : IsSorted by_entry (map entry_cells rows)) where
  its_claims : IsPermutation (map claim_of (items_if_any (λ (r : Rows). r.auths) (all.of_holder h))) claims
  its_claims = go (all.of_holder h) same_claims
    where
      go : (o : Option Rows) → IsPermutation (items_if_any (λ (r : Rows). map claim_of r.auths) o) claims → IsPermutation (map claim_of (items_if_any (λ (r : Rows). r.auths) o)) claims
      go None same = same
      go (Some r) same = same

  its_rows : IsPermutation (flat_map entry_rows_of (items_if_any (λ (r : Rows). r.auths) (all.of_holder h))) rows
  its_rows = go (all.of_holder h) same_rows
    where
      go : (o : Option Rows) → IsPermutation (items_if_any (λ (r : Rows). flat_map entry_rows_of r.auths) o) rows → IsPermutation (flat_map entry_rows_of (items_if_any (λ (r : Rows). r.auths) o)) rows
      go None same = same
      go (Some r) same = same

  pub auths_found : (auths : List Auth) → AreAuths claims rows auths → IsPermutation (items_if_any (λ (r : Rows). r.auths) (all.of_holder h)) auths × IsSortedByKey (λ (x : Auth). x.number) nat_cmp auths
  auths_found = in_order h _ claims rows (held_entries charter all db.trees holds h) (numbers_differ differ charter all db sound tables holds h) its_claims claims_sorted its_rows sorted

  pub never_none : (NumbersRise claims → (auths : List Auth) → ¬ AreAuths claims rows auths) → ⊥
  never_none = are_some h _ claims rows (held_entries charter all db.trees holds h) (numbers_differ differ charter all db sound tables holds h) its_claims claims_sorted its_rows sorted

-- ---- what is made of them, or refused

pub if_made : {A E : Type 0} (found : Option A) (fault : E) (result : Result A E) (Never : Type 0) (P Q : A → Type 0) → result ≡ ok_or found fault → MatchOption found Never P → ((a : A) → P a → Q a) → IfOk result Q
if_made {A} found fault result Never P Q is made so = subst (λ r. IfOk r Q) (sym is) (go found made)
  where
    go : (found : Option A) → MatchOption found Never P → IfOk (ok_or found fault) Q
    go None never = tt
    go (Some a) made = so a made

pub only_refused : {A E : Type 0} (found : Option A) (fault : E) (Never : Type 0) (P : A → Type 0) → MatchOption found Never P → ok_or found fault ≡ Err fault → Never
only_refused None fault Never P never is = never
only_refused (Some a) fault Never P made is = absurd cc
