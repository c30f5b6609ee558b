-- The authorizations that the rows of claims and of entries make, and that tables that read show them.
use Rattle.store_open.proofs.Vocabulary.{codes, ◌≡◌, ◌≢◌, ℕ, true, false, List, [], ◌∷◌, ◌++◌, map, flat_map, length, take, drop, refl, sym, ap, subst, ◌∙◌, arith, is_eq, nat_cmp, Ordering, Less, Equal, Greater, IsPermutation, IsSorted, IsTrue, Result, OnOk, slice_cmp, AllByRecursion, ordering_then, and_parts, and_from, false_from_ne_true, le-leb, recursion_from_All, IsPermutation-sym, IsPermutation-trans, IsPermutation-map, on_ok_weaker, Database, Text, Row, column, IsAscending, all_weaker, all_both, all-map, all-flat_map, all_from_map, all-permutation, ascending-map, ascending_from_map, ascending_weaker, map-map, map-flat_map, flat_map_same_on, Integer, IsSound, FitsMaxLength, fits_max_length, is_name, AuthFits, AreEntries, Auth, RoaPrefix, Claim, EntryRow, Group, OfHolder, claim_of, entry_rows_of, claim_row, entry_row, ClaimFits, EntryRowFits, NamedFits, AllApart, claim_entry, group_rows, desk_tables, auth, claim, entry, required_column, contents, columns, IsTree, one_claim, one_entry_row, values_shown, claim_cmp, claim_orders, entry_row_cmp, groups_in_order, holder_orders, of_holder_cmp, rising_apart, AreOrders, HaveInOrder, all_columns, ShowsSome, HasSomeAuths, row_of_claim, rows_of_entries, shown_in, AreRead, MakeAuths, ShowAuths, claim_places, entry_places, named_claim, named_entries, all_claims_differ, at_claim, at_entry, ascending_moved, all_whole, show_claim, show_entry}
use Rattle.std.proofs.lemmas.Bool.Decides.{nat_tests}
use Rattle.std.proofs.lemmas.Map.Text.{is_eq-slice_cmp}
use Rattle.registry.specs.Verdict.{fit_lengths}
use Rattle.registry.proofs.Names.{same_name-true}
use Rattle.store_transactions.specs.Laws.{number_columns}
use Rattle.store_open.proofs.Grouped.{group_of, makes, named_row, same_rows}

-- ---- in range

both_parts : {X : Type 0} (P : X → Type 0) (xs ys : List X) → AllByRecursion P (xs ++ ys) → AllByRecursion P xs × AllByRecursion P ys
both_parts P [] ys all = (tt, all)
both_parts P (x ∷ xs) ys all = let rest = both_parts P xs ys all.1 in ((all.0, rest.0), rest.1)

all_from_flat_map : {X Y : Type 0} (P : Y → Type 0) (f : X → List Y) (xs : List X) → AllByRecursion P (flat_map f xs) → AllByRecursion (λ x. AllByRecursion P (f x)) xs
all_from_flat_map P f [] all = tt
all_from_flat_map P f (x ∷ xs) all = let parts = both_parts P (f x) (flat_map f xs) all in (parts.0, all_from_flat_map P f xs parts.1)

lengths_fit : (es : List RoaPrefix) → AllByRecursion (λ (e : RoaPrefix). FitsMaxLength e.prefix e.max) es → fit_lengths es ≡ true
lengths_fit [] all = refl
lengths_fit (e ∷ es) all = and_from _ _ (and_from _ _ (le-leb _ _ all.0.0) (le-leb _ _ all.0.1)) (lengths_fit es all.1)

max_fits : (e : RoaPrefix) → fits_max_length e.prefix e.max ≡ true → FitsMaxLength e.prefix e.max
max_fits e fits = (grind (arith, nat_tests), grind (arith, nat_tests))

lengths_in_range : (es : List RoaPrefix) → fit_lengths es ≡ true → AllByRecursion (λ (e : RoaPrefix). FitsMaxLength e.prefix e.max) es
lengths_in_range [] fit = tt
lengths_in_range (e ∷ es) fit =
    let parts : fits_max_length e.prefix e.max ≡ true × fit_lengths es ≡ true = and_parts _ _ fit in
    (max_fits e parts.0, lengths_in_range es parts.1)

abbrev IsInRange : OfHolder Auth → Type 0
IsInRange x = IsTrue (is_name x.holder) × AuthFits x.row

auth_fits : (x : OfHolder Auth) → NamedFits ClaimFits (named_claim x) → AllByRecursion (NamedFits EntryRowFits) (named_entries x) → AreEntries x.row.entries → IsInRange x
auth_fits x one each are =
    let rows = all_from_map (NamedFits EntryRowFits) _ (entry_rows_of x.row) each in
    let entries = all_from_map _ (claim_entry (claim_of x.row)) x.row.entries rows in (
      one.0,
      record {
        number = one.1.number;
        asn = one.1.asn;
        entries = are;
        lengths = lengths_fit x.row.entries (all_weaker _ _ (λ e fits. fits.1.max) x.row.entries entries);
        from = one.1.from;
        until = one.1.until;
      },
    )

claim_fits : (x : Auth) → AuthFits x → ClaimFits (claim_of x)
claim_fits x fits = record { number = fits.number; asn = fits.asn; from = fits.from; until = fits.until }

rows_fit : (x : Auth) → AuthFits x → AllByRecursion EntryRowFits (entry_rows_of x)
rows_fit x fits =
    all-map EntryRowFits (claim_entry (claim_of x)) x.entries
    (all_weaker _ _ (λ e range. record { number = fits.number; asn = fits.asn; max = range }) x.entries (lengths_in_range x.entries fits.lengths))

-- ---- what tables that read show

-- the rows of the entries of an authorization, and what the query of entries shows of them
entries_of_shown : (x : OfHolder Auth) → map (columns entry_places) (rows_of_entries x) ≡ map show_entry (named_entries x)
entries_of_shown x = map-map (columns entry_places) (entry_row x.holder) (entry_rows_of x.row) ∙ sym (map-map show_entry _ (entry_rows_of x.row))

module _ (db : Database) (read : HasSomeAuths db.trees) where
  claims_in_columns : IsPermutation (map show_claim (map named_claim read.auths)) (shown_in claim.tree claim_places db)
  claims_in_columns =
      subst (λ l. IsPermutation l (shown_in claim.tree claim_places db)) (map-map (columns claim_places) row_of_claim read.auths ∙ sym (map-map show_claim named_claim read.auths))
      (IsPermutation-map (columns claim_places) _ _ read.claims_shown)

  entries_in_columns : IsPermutation (map show_entry (flat_map named_entries read.auths)) (shown_in entry.tree entry_places db)
  entries_in_columns =
      subst (λ l. IsPermutation l (shown_in entry.tree entry_places db))
      (map-flat_map (columns entry_places) rows_of_entries read.auths ∙ flat_map_same_on _ _ entries_of_shown read.auths ∙ sym (map-flat_map show_entry named_entries read.auths))
      (IsPermutation-map (columns entry_places) _ _ read.entries_shown)

  pub claims_in : AllByRecursion (ShowsSome show_claim (NamedFits ClaimFits)) (shown_in claim.tree claim_places db)
  claims_in =
      all-permutation (ShowsSome show_claim (NamedFits ClaimFits)) _ _ claims_in_columns
      (all-map _ show_claim (map named_claim read.auths) (all-map _ named_claim read.auths (all_weaker _ _ (λ x fits. (named_claim x, (fits.0, claim_fits x.row fits.1), refl)) read.auths read.fit)))

  pub entries_in : AllByRecursion (ShowsSome show_entry (NamedFits EntryRowFits)) (shown_in entry.tree entry_places db)
  entries_in =
      all-permutation (ShowsSome show_entry (NamedFits EntryRowFits)) _ _ entries_in_columns
      (all-map (ShowsSome show_entry (NamedFits EntryRowFits)) show_entry (flat_map named_entries read.auths)
      (all-flat_map _ named_entries read.auths
      (all_weaker _ _ (λ x fits. all-map _ _ (entry_rows_of x.row) (all_weaker _ _ (λ r fit. (record { holder = x.holder; row = r }, (fits.0, fit), refl)) (entry_rows_of x.row) (rows_fit x.row fits.1))) read.auths read.fit)))

-- ---- the authorizations of tables that read are those of what the queries show in order

one_named_claim : (x y : OfHolder Claim) → show_claim x ≡ show_claim y → x ≡ y
one_named_claim x y is =
    let name : x.holder ≡ y.holder = let texts : Text x.holder ≡ Text y.holder = ap (λ c. column c 4) is in cc in
    let row = one_claim x.row y.row (ap (λ (c : Row). take 4 c) is) in
    λ i. record { holder = name i; row = row i }

pub one_named_entry : (x y : OfHolder EntryRow) → show_entry x ≡ show_entry y → x ≡ y
one_named_entry x y is =
    let name : x.holder ≡ y.holder = let texts : Text x.holder ≡ Text y.holder = ap (λ c. column c 6) is in cc in
    let row = one_entry_row x.row y.row (ap (λ (c : Row). take 6 c) is) in
    λ i. record { holder = name i; row = row i }

ties : (o p : Ordering) → is_eq (ordering_then o p) ≡ true → (is_eq o ≡ true) × (is_eq p ≡ true)
ties Less p is = absurd cc
ties Equal p is = (refl, is)
ties Greater p is = absurd cc

same_number : (m n : ℕ) → is_eq (nat_cmp m n) ≡ true → m ≡ n
same_number m n is = grind (arith, is)

-- authorizations that have another holder or number are untied
untied : (x y : OfHolder Auth) → number_columns (row_of_claim x) ≢ number_columns (row_of_claim y) → is_eq (of_holder_cmp claim_cmp (named_claim x) (named_claim y)) ≡ false
untied x y differ =
    false_from_ne_true _ (λ is.
    let both = ties (slice_cmp _ x.holder y.holder) (nat_cmp x.row.number y.row.number) is in
    let name = same_name-true x.holder y.holder (sym (is_eq-slice_cmp x.holder y.holder) ∙ both.0) in
    let number = same_number x.row.number y.row.number both.1 in
    differ (λ i. number_columns (claim_row (name i) (record { number = number i; asn = x.row.asn; from = x.row.from; until = x.row.until }))))

module _ (db : Database) (sound : IsSound db.schema db.trees) (tables : db.schema.tables ≡ desk_tables) (whole : IsTree (db.trees claim.tree)) (read : HasSomeAuths db.trees)
    (claims : List (OfHolder Claim)) (entries : List (OfHolder EntryRow))
    (claims_read : AreRead show_claim (NamedFits ClaimFits) (shown_in claim.tree claim_places db) claims) (claims_sorted : IsSorted (of_holder_cmp claim_cmp) claims)
    (entries_read : AreRead show_entry (NamedFits EntryRowFits) (shown_in entry.tree entry_places db) entries) (entries_sorted : IsSorted (of_holder_cmp entry_row_cmp) entries) where
  abbrev held : List (Group (OfHolder Claim))
  held = map group_of read.auths

  abbrev orders : AreOrders named_row (of_holder_cmp claim_cmp) (of_holder_cmp entry_row_cmp)
  orders = holder_orders claim_entry claim_cmp entry_row_cmp claim_orders

  all_untied : IsAscending (λ (g h : Group (OfHolder Claim)). is_eq (of_holder_cmp claim_cmp g.claim h.claim) ≡ false) held
  all_untied =
      let apart : Row → Row → Type 0 = λ c d. number_columns c ≢ number_columns d in
      let moved = ascending_moved apart (λ c d differ is. differ (sym is)) (contents (db.trees claim.tree)) (map row_of_claim read.auths) (IsPermutation-sym _ _ read.claims_shown) (all_claims_differ db sound tables whole) in
      ascending-map _ group_of read.auths (ascending_weaker _ _ (λ x y. untied x y) read.auths (ascending_from_map apart row_of_claim read.auths moved))

  same_claims : IsPermutation (map (λ (g : Group (OfHolder Claim)). g.claim) held) claims
  same_claims =
      subst (λ l. IsPermutation l claims) (sym (map-map (λ (g : Group (OfHolder Claim)). g.claim) group_of read.auths))
      (values_shown show_claim one_named_claim (map named_claim read.auths) claims (map show_claim claims) (IsPermutation-trans _ _ _ (claims_in_columns db read) claims_read.same) refl)

  same_entries : IsPermutation (flat_map (group_rows named_row) held) entries
  same_entries =
      subst (λ l. IsPermutation l entries) (same_rows read.auths)
      (values_shown show_entry one_named_entry (flat_map named_entries read.auths) entries (map show_entry entries) (IsPermutation-trans _ _ _ (entries_in_columns db read) entries_read.same) refl)

  in_order : HaveInOrder named_row (of_holder_cmp claim_cmp) (of_holder_cmp entry_row_cmp) orders held claims entries
  in_order =
      groups_in_order named_row (of_holder_cmp claim_cmp) (of_holder_cmp entry_row_cmp) orders held claims entries all_untied
      (all-map _ group_of read.auths (all_weaker _ _ (λ x fits. fits.1.entries) read.auths read.fit)) same_claims claims_sorted same_entries entries_sorted

  -- no row is that of an entry of two claims
  claims_apart : AllApart named_row claims
  claims_apart =
      let have = in_order in
      let less : OfHolder Claim → OfHolder Claim → Type 0 = λ c d. of_holder_cmp claim_cmp c d ≡ Less in
      rising_apart named_row (of_holder_cmp claim_cmp) (of_holder_cmp entry_row_cmp) orders claims
      (subst (IsAscending less) have.are.same_claims (ascending-map less (λ (g : Group (OfHolder Claim)). g.claim) have.groups have.rise))

  auths_made : MakeAuths claims entries
  auths_made = let have = in_order in makes claims entries have.groups have.are

  -- so they are not such that, if apart, they make no authorizations
  pub not_unmade : ¬ (AllApart named_row claims → ¬ MakeAuths claims entries)
  not_unmade unmade = unmade claims_apart auths_made

-- ---- the rows of what was read

-- the rows of a table are those that values show, where each row is what its columns are, put back
put_back :
    {X : Type 0} (count : ℕ) (places back : List ℕ) → ((c : Row) → length c ≡ count → columns back (columns places c) ≡ c)
    → (cells : X → Row) (values : List X) (rows : List Row) → AllByRecursion (λ c. length c ≡ count) rows
    → IsPermutation (map (columns places) rows) (map cells values) → IsPermutation (map (λ x. columns back (cells x)) values) rows
put_back count places back is cells values rows widths same =
    let moved = IsPermutation-map (columns back) _ _ (IsPermutation-sym _ _ same) in
    subst (λ l. IsPermutation l rows) (map-map (columns back) cells values)
    (subst (IsPermutation (map (columns back) (map cells values))) (map-map (columns back) (columns places) rows ∙ unchanged rows widths) moved)
  where
    unchanged : (rows : List Row) → AllByRecursion (λ c. length c ≡ count) rows → map (λ c. columns back (columns places c)) rows ≡ rows
    unchanged [] all = refl
    unchanged (c ∷ rows) all = λ i. is c all.0 i ∷ unchanged rows all.1 i

module _ (db : Database) (tables : db.schema.tables ≡ desk_tables) (sound : IsSound db.schema db.trees) (shown : ShowAuths db) where
  abbrev auths : List (OfHolder Auth)
  auths = shown.made.auths

  made_claims : IsPermutation (map row_of_claim auths) (contents (db.trees claim.tree))
  made_claims =
      let widths = all-map (λ c. length c ≡ 5) (drop 1) (db.trees claim.tree) (all_whole db.schema db.trees tables sound claim at_claim refl 4 (required_column (codes "ends") Integer) refl refl refl) in
      let rows = put_back 5 claim_places (4 ∷ 0 ∷ 1 ∷ 2 ∷ 3 ∷ []) (λ c count. sym (all_columns 5 c count)) show_claim shown.claims (contents (db.trees claim.tree)) widths shown.claims_read.same in
      subst (λ l. IsPermutation l (contents (db.trees claim.tree)))
      (ap (map (λ (x : OfHolder Claim). claim_row x.holder x.row)) (sym shown.made.same_claims) ∙ map-map (λ (x : OfHolder Claim). claim_row x.holder x.row) named_claim auths) rows

  made_entries : IsPermutation (flat_map rows_of_entries auths) (contents (db.trees entry.tree))
  made_entries =
      let widths = all-map (λ c. length c ≡ 7) (drop 1) (db.trees entry.tree) (all_whole db.schema db.trees tables sound entry at_entry refl 6 (required_column (codes "max") Integer) refl refl refl) in
      let rows = put_back 7 entry_places (6 ∷ 0 ∷ 1 ∷ 2 ∷ 3 ∷ 4 ∷ 5 ∷ []) (λ c count. sym (all_columns 7 c count)) show_entry shown.entries (contents (db.trees entry.tree)) widths shown.entries_read.same in
      let shows : OfHolder EntryRow → Row = λ x. entry_row x.holder x.row in
      subst (λ l. IsPermutation l (contents (db.trees entry.tree)))
      (ap (map shows) (sym shown.made.same_entries) ∙ map-flat_map shows named_entries auths ∙ flat_map_same_on _ _ (λ x. map-map shows _ (entry_rows_of x.row)) auths) rows

  made_in_range : AllByRecursion IsInRange auths
  made_in_range =
      let claims = subst (AllByRecursion (NamedFits ClaimFits)) (sym shown.made.same_claims) (recursion_from_All _ _ shown.claims_read.fit) in
      let entries = subst (AllByRecursion (NamedFits EntryRowFits)) (sym shown.made.same_entries) (recursion_from_All _ _ shown.entries_read.fit) in
      let one = all_from_map (NamedFits ClaimFits) named_claim auths claims in
      let each = all_from_flat_map (NamedFits EntryRowFits) named_entries auths entries in
      all_both _ _ IsInRange (λ x fits are. auth_fits x fits.0 fits.1 are) auths (all_both _ _ (λ x. NamedFits ClaimFits (named_claim x) × AllByRecursion (NamedFits EntryRowFits) (named_entries x)) (λ x c e. (c, e)) auths one each) shown.made.are_entries

  -- the authorizations that were made
  pub auths_read : HasSomeAuths db.trees
  auths_read = record {
    auths = auths;
    fit = made_in_range;
    claims_shown = made_claims;
    entries_shown = made_entries;
    unused = ap contents shown.unused;
  }

-- what the queries show, where it makes authorizations
pub auths_shown :
    {Y F : Type 0} (r : Result Y F) (db : Database) (claims : List (OfHolder Claim)) (entries : List (OfHolder EntryRow))
    → db.trees auth.tree ≡ [] → IsTree (db.trees claim.tree) → IsTree (db.trees entry.tree)
    → AreRead show_claim (NamedFits ClaimFits) (shown_in claim.tree claim_places db) claims → AreRead show_entry (NamedFits EntryRowFits) (shown_in entry.tree entry_places db) entries
    → OnOk r (MakeAuths claims entries) → OnOk r (ShowAuths db)
auths_shown r db claims entries none one other claims_read entries_read made =
    on_ok_weaker r (λ m. record { unused = none; claims_whole = one; entries_whole = other; claims = claims; entries = entries; claims_read = claims_read; entries_read = entries_read; made = m }) made
