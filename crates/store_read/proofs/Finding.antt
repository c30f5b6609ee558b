-- What the queries of the values of one holder answer.
use Rattle.store_read.proofs.Vocabulary.{◌≡◌, ℕ, suc, pos, ◌==◌, Bool, true, false, cond, ◌&&◌, List, [], ◌∷◌, ◌++◌, map, flat_map, filter, drop, length, Option, Some, None, Ordering, Equal, refl, sym, ap, ap₂, subst, ◌∙◌, IsPermutation, IsSorted, AllByRecursion, then_cmp, ordering_then, map-append, filter-append, IsPermutation-trans, IsPermutation-map, Database, Reads, Key, Binary, Null, Text, Blob, Row, column, value_cmp, then-Equal, Trees, IsPermutation-filter, all-map, all_of, filter_all, filter_none, filter-map, map-flat_map, map-map, Le, Compare, binary, is_true, Term, eval_all, IsAnswer, key_cmp, overlay, Command, last_of, family_eq, Asn, Prefix, below_widest, first_below, CharterSets, Auth, RoaPrefix, Rows, AllRows, claim_of, entry_rows_of, address_bytes, family_number, span_cells, grant_cells, claim_cells, given_cells, entry_cells, number_cell, holding_row, granted_row, claim_row, entry_row, contents, columns, Part, TablesHold, is_name_of, items_if_any, HoldsPart, part_rows, holder_part, holding_part, granted_part, claim_part, entry_part, first_columns, claim_entry, Claim, EntryRow, SELECT_HOLDER_CLAIMS, SELECT_NUMBERED_CLAIM, SELECT_ENTRIES_UP_TO, SELECT_GIVEN_ENTRIES, SELECT_HOLDER_ENTRIES, SELECT_NUMBERED_ENTRIES, SELECT_HOLDER_SPANS, are_whole, filter_twice, begins_up_to, entries_given, entries_up_to, gives_entry, by_column, AnswersRows, Selects, SelectsWith, from_table, no_limit, picks, permuted, sorted, column_after, shown_at, shown_columns, grant_places, grant_shown, equals_blob, equals_int, equals_text, holder_test, last_term, by_entry, names, cells_of_counters, counters_of_rows, one_counters, one_span, one_grant, one_claim, one_entry_row, of_number_tests, given_tests, up_to_tests, claims_is, entries_is, entries_up_to_is, given_entries_is, numbered_claim_is, numbered_entries_is, Means, equals, upwards, counters_is, spans_is, grants_is}
use Rattle.sqlite_schema.specs.declared.command.Command.TheVariants.{Select}
use Rattle.store_tables.specs.declared.granted.TheConstants.{SELECT_HOLDER_GRANTS}
use Rattle.store_tables.specs.declared.holder.TheConstants.{SELECT_COUNTERS}
use Rattle.store_tables.proofs.CellLemmas.{is_bytes, is_number_cell, number_of_number, same_address, same_family_number}
use Rattle.store_read.proofs.Overlapping.{address_le, last_fits}

-- what is shown of the rows that pass, where both read the columns alone
pub of_contents : {X : Type 0} (shows cells : Row → X) (passes goes : Row → Bool) → ((r : Row) → shows r ≡ cells (drop 1 r)) → ((r : Row) → passes r ≡ goes (drop 1 r)) → (rows : List Row)
    → map shows (filter passes rows) ≡ map cells (filter goes (contents rows))
of_contents shows cells passes goes same tests rows =
    (λ i. map (λ r. same r i) (filter (λ r. tests r i) rows)) ∙ sym (ap (map cells) (filter-map goes (drop 1) rows) ∙ map-map cells (drop 1) _)

-- The query of a holder's values: their table, the columns that it shows, its text, what it is sorted by, and
-- the titles of its columns.
pub record HolderQuery {X : Type 0} (cells : X → Row) (width : ℕ) (items : Rows → List X) (cmp : Row → Row → Ordering) : Type 0 where
  pub part : Part
  pub places : List ℕ
  pub counted : length places ≡ width
  pub text : List ℕ
  pub order : List (Term × Key)
  pub titles : List (List ℕ)
  pub means :
      Means text
      (Select
      (record {
        lets = [];
        body = from_table part.tree (equals (suc part.place) 0 ∷ []) (shown_at places) order no_limit;
      }) titles)
  pub held :
      (charter : CharterSets) (rows : AllRows) (trees : Trees) → TablesHold charter rows trees
      → HoldsPart part rows.of_holder (contents (trees part.tree))
  pub shows : (h : List ℕ) (r : Rows) → map (columns places) (part.rows h r) ≡ map cells (items r)
  -- the columns that it is sorted by, of those that it shows
  pub keys : List ℕ
  pub keyed :
      (params r : Row)
      → eval_all (map (λ (k : Term × Key). k.0) order) (params ∷ r ∷ [])
      ≡ map (column (eval_all (shown_at places) (params ∷ r ∷ []))) keys
  pub ranked :
      (x y : Row)
      → key_cmp 0 (map (λ (k : Term × Key). k.1) order) (map (column x) keys) (map (column y) keys) ≡ cmp x y
  pub once : (x y : X) → cells x ≡ cells y → x ≡ y

module _ {X : Type 0} (cells : X → Row) (width : ℕ) (items : Rows → List X) (cmp : Row → Row → Ordering) (q : HolderQuery cells width items cmp) where
  -- A text as that of the query but for its tests: with these parameters it shows, of the rows of the holder, those that
  -- are kept, which are some of its values.
  pub record IsLike (some : Rows → List X) (text h : List ℕ) (params : Row) : Type 0 where
    pub tests : List Term
    pub means : Means text (Select (record { lets = []; body = from_table q.part.tree tests (shown_at q.places) q.order no_limit }) q.titles)
    pub keeps : List Row → List Row
    pub permutes : (xs ys : List Row) → IsPermutation xs ys → IsPermutation (keeps xs) (keeps ys)
    pub picked :
        (rows : List Row)
        → map (λ r. eval_all (shown_at q.places) (params ∷ r ∷ [])) (filter (picks params tests) rows)
        ≡ map (columns q.places) (keeps (filter (names q.part.place h) (contents rows)))
    pub shows : (o : Option Rows) → map (columns q.places) (keeps (part_rows q.part h o)) ≡ map cells (items_if_any some o)

  module _ (some : Rows → List X) (text h : List ℕ) (params : Row) (like : IsLike some text h params) where
    module _ (db : Database) (rows : List Row) (selected : AnswersRows text params db rows) where
      answers : IsAnswer (from_table q.part.tree like.tests (shown_at q.places) q.order no_limit) (overlay db.trees []) params rows
      answers = (subst (λ (k : Command). Reads k db params rows) (like.means.is db.schema) selected).answer Null

      rises : IsSorted cmp rows
      rises = sorted q.part.tree like.tests (shown_at q.places) q.order db.trees params rows q.keys cmp (q.keyed params) q.ranked answers

      finds : IsPermutation (map (columns q.places) (like.keeps (filter (names q.part.place h) (contents (db.trees q.part.tree))))) rows
      finds = subst (λ l. IsPermutation l rows) (like.picked (db.trees q.part.tree)) (permuted q.part.tree like.tests (shown_at q.places) q.order db.trees params rows answers)

      found : (charter : CharterSets) (all : AllRows) → TablesHold charter all db.trees → IsPermutation (map cells (items_if_any some (all.of_holder h))) rows
      found charter all holds =
          let kept = like.permutes _ _ ((q.held charter all db.trees holds).each h) in
          subst (λ l. IsPermutation l rows) (like.shows (all.of_holder h)) (IsPermutation-trans _ _ _ (IsPermutation-map (columns q.places) _ _ kept) finds)

      whole : map (first_columns width) rows ≡ rows
      whole = subst (λ count. map (first_columns count) rows ≡ rows) q.counted (are_whole q.places _ rows finds)

    pub selects_with : SelectsWith cells width some cmp text h params
    selects_with = record { plain = like.means.plain; unlisted = like.means.unlisted; found = found; rising = rises; whole = whole; once = q.once }

  shows_all : (h : List ℕ) (o : Option Rows) → map (columns q.places) (part_rows q.part h o) ≡ map cells (items_if_any items o)
  shows_all h None = refl
  shows_all h (Some r) = q.shows h r

  -- the query of all values of a holder
  pub selects : Selects cells width items cmp q.text
  selects h = selects_with items q.text h (Text h ∷ []) (record {
    tests = equals (suc q.part.place) 0 ∷ [];
    means = q.means;
    keeps = λ rows. rows;
    permutes = λ _ _ same. same;
    picked = of_contents (λ r. eval_all (shown_at q.places) ((Text h ∷ []) ∷ r ∷ [])) (columns q.places) (picks (Text h ∷ []) (equals (suc q.part.place) 0 ∷ [])) (names q.part.place h) (shown_columns q.places (Text h ∷ [])) (holder_test q.part.place h []);
    shows = shows_all h;
  })

-- ---- the five queries

abbrev pub counters_query : HolderQuery cells_of_counters 2 counters_of_rows (λ _ _. Equal)
counters_query = record {
  part = holder_part;
  places = 1 ∷ 2 ∷ [];
  counted = refl;
  text = SELECT_COUNTERS.now;
  order = [];
  titles = _;
  means = counters_is;
  held = λ _ _ _ holds. holds.holders;
  shows = λ _ _. refl;
  keys = [];
  keyed = λ _ _. refl;
  ranked = λ _ _. refl;
  once = one_counters;
}

abbrev pub spans_query : HolderQuery span_cells 3 (λ (r : Rows). r.holdings) (then_cmp (by_column 0) (by_column 1))
spans_query = record {
  part = holding_part;
  places = 0 ∷ 1 ∷ 2 ∷ [];
  counted = refl;
  text = SELECT_HOLDER_SPANS.now;
  order = upwards 1 ∷ upwards 2 ∷ [];
  titles = _;
  means = spans_is;
  held = λ _ _ _ holds. holds.holdings;
  shows = λ h r. map-map (columns (0 ∷ 1 ∷ 2 ∷ [])) (holding_row h) r.holdings;
  keys = 0 ∷ 1 ∷ [];
  keyed = λ _ _. refl;
  ranked = λ x y. ap (ordering_then (value_cmp (column x 0) (column y 0))) (then-Equal _);
  once = one_span;
}

abbrev pub grants_query : HolderQuery grant_cells 7 (λ (r : Rows). r.grants) (by_column 0)
grants_query = record {
  part = granted_part;
  places = grant_places;
  counted = refl;
  text = SELECT_HOLDER_GRANTS.now;
  order = upwards 2 ∷ [];
  titles = _;
  means = grants_is;
  held = λ _ _ _ holds. holds.grants;
  shows = λ h r. map-map (columns grant_places) (granted_row h) r.grants ∙ (λ i. map (λ g. grant_shown h g i) r.grants);
  keys = 0 ∷ [];
  keyed = λ _ _. refl;
  ranked = λ x y. then-Equal _;
  once = one_grant;
}

abbrev claim_places : List ℕ
claim_places = 1 ∷ 2 ∷ 3 ∷ 4 ∷ []

abbrev pub claims_query : HolderQuery claim_cells 4 (λ (r : Rows). map claim_of r.auths) (by_column 0)
claims_query = record {
  part = claim_part;
  places = claim_places;
  counted = refl;
  text = SELECT_HOLDER_CLAIMS.now;
  order = upwards 2 ∷ [];
  titles = _;
  means = claims_is;
  held = λ _ _ _ holds. holds.claims;
  shows = λ h r. map-map (columns claim_places) (λ x. claim_row h (claim_of x)) r.auths ∙ sym (map-map claim_cells claim_of r.auths);
  keys = 0 ∷ [];
  keyed = λ _ _. refl;
  ranked = λ x y. then-Equal _;
  once = one_claim;
}

abbrev entry_places : List ℕ
entry_places = 1 ∷ 2 ∷ 3 ∷ 4 ∷ 5 ∷ 6 ∷ []

abbrev pub entries_query : HolderQuery entry_cells 6 (λ (r : Rows). flat_map entry_rows_of r.auths) (then_cmp (by_column 0) (then_cmp (by_column 2) (then_cmp (by_column 3) (by_column 4))))
entries_query = record {
  part = entry_part;
  places = entry_places;
  counted = refl;
  text = SELECT_HOLDER_ENTRIES.now;
  order = upwards 2 ∷ upwards 4 ∷ upwards 5 ∷ upwards 6 ∷ [];
  titles = _;
  means = entries_is;
  held = λ _ _ _ holds. holds.entries;
  shows = λ h r. ap (map (columns entry_places)) (sym (map-flat_map (entry_row h) entry_rows_of r.auths)) ∙ map-map (columns entry_places) (entry_row h) (flat_map entry_rows_of r.auths);
  keys = 0 ∷ 2 ∷ 3 ∷ 4 ∷ [];
  keyed = λ _ _. refl;
  ranked = λ x y.
      ap (λ o. ordering_then (value_cmp (column x 0) (column y 0)) (ordering_then (value_cmp (column x 2) (column y 2)) (ordering_then (value_cmp (column x 3) (column y 3)) o)))
      (then-Equal _);
  once = one_entry_row;
}

-- the columns of the rows of the holder that are kept
rows_picked : (h : List ℕ) (params : Row) (tests : List Term) (keeps : Row → Bool) → ((r : Row) → picks params tests r ≡ (names 0 h (drop 1 r) && keeps (drop 1 r))) → (places : List ℕ) (rows : List Row)
    → map (λ r. eval_all (shown_at places) (params ∷ r ∷ [])) (filter (picks params tests) rows) ≡ map (columns places) (filter keeps (filter (names 0 h) (contents rows)))
rows_picked h params tests keeps passes places rows =
    of_contents (λ r. eval_all (shown_at places) (params ∷ r ∷ [])) (columns places) (picks params tests) (λ c. names 0 h c && keeps c) (shown_columns places params) passes rows
    ∙ ap (map (columns places)) (sym (filter_twice keeps (names 0 h) (contents rows)))

-- ---- the two queries of one authorization

abbrev pub has_number : ℕ → Auth → Bool
has_number n x = x.number == n

abbrev pub is_numbered : ℕ → Row → Bool
is_numbered n c = is_number_cell n (column c 1)

abbrev pub claims_numbered : ℕ → Rows → List Claim
claims_numbered n r = map claim_of (filter (has_number n) r.auths)

abbrev pub entries_numbered : ℕ → Rows → List EntryRow
entries_numbered n r = flat_map entry_rows_of (filter (has_number n) r.auths)

module _ (h : List ℕ) (n : ℕ) where
  abbrev params : Row
  params = Text h ∷ number_cell n ∷ []

  number_tests : (r : Row) → picks params of_number_tests r ≡ (names 0 h (drop 1 r) && is_numbered n (drop 1 r))
  number_tests r =
      ap₂ ◌&&◌ (equals_text (column r 1) h ∙ ap (is_name_of h) (column_after r 0))
      (last_term (equals_int (column r 2) (pos n) ∙ ap (is_number_cell n) (column_after r 1)))

  pub claims_kept : (xs : List Auth) → filter (is_numbered n) (map (λ x. claim_row h (claim_of x)) xs) ≡ map (λ x. claim_row h (claim_of x)) (filter (has_number n) xs)
  claims_kept xs = filter-map (is_numbered n) (λ x. claim_row h (claim_of x)) xs ∙ (λ i. map (λ x. claim_row h (claim_of x)) (filter (λ x. number_of_number x.number n i) xs))

  claims_shown : (o : Option Rows) → map (columns claim_places) (filter (is_numbered n) (part_rows claim_part h o)) ≡ map claim_cells (items_if_any (claims_numbered n) o)
  claims_shown None = refl
  claims_shown (Some r) =
      ap (map (columns claim_places)) (claims_kept r.auths) ∙ map-map (columns claim_places) (λ x. claim_row h (claim_of x)) (filter (has_number n) r.auths)
      ∙ sym (map-map claim_cells claim_of (filter (has_number n) r.auths))

  pub selects_claim : SelectsWith claim_cells 4 (claims_numbered n) (by_column 0) SELECT_NUMBERED_CLAIM.now h params
  selects_claim = selects_with _ _ _ _ claims_query (claims_numbered n) _ h params (record {
    tests = of_number_tests;
    means = numbered_claim_is;
    keeps = filter (is_numbered n);
    permutes = IsPermutation-filter (is_numbered n);
    picked = rows_picked h params of_number_tests (is_numbered n) number_tests claim_places;
    shows = claims_shown;
  })

  numbered_rows : (x : Auth) → AllByRecursion (λ c. is_numbered n c ≡ has_number n x) (map (entry_row h) (entry_rows_of x))
  numbered_rows x =
      all-map (λ c. is_numbered n c ≡ has_number n x) (entry_row h) (entry_rows_of x)
      (all-map (λ r. is_numbered n (entry_row h r) ≡ has_number n x) (claim_entry (claim_of x)) x.entries (all_of (λ e. is_numbered n (entry_row h (claim_entry (claim_of x) e)) ≡ has_number n x) (λ e. number_of_number x.number n) x.entries))

  entries_kept : (xs : List Auth) → filter (is_numbered n) (flat_map (λ x. map (entry_row h) (entry_rows_of x)) xs) ≡ map (entry_row h) (flat_map entry_rows_of (filter (has_number n) xs))
  entries_kept [] = refl
  entries_kept (x ∷ xs) =
      filter-append (is_numbered n) (map (entry_row h) (entry_rows_of x)) (flat_map (λ y. map (entry_row h) (entry_rows_of y)) xs)
      ∙ go (has_number n x) (numbered_rows x) (entries_kept xs)
    where
      go : (b : Bool) → AllByRecursion (λ c. is_numbered n c ≡ b) (map (entry_row h) (entry_rows_of x))
          → filter (is_numbered n) (flat_map (λ y. map (entry_row h) (entry_rows_of y)) xs) ≡ map (entry_row h) (flat_map entry_rows_of (filter (has_number n) xs))
          → filter (is_numbered n) (map (entry_row h) (entry_rows_of x)) ++ filter (is_numbered n) (flat_map (λ y. map (entry_row h) (entry_rows_of y)) xs)
          ≡ map (entry_row h) (flat_map entry_rows_of (cond b (x ∷ filter (has_number n) xs) (filter (has_number n) xs)))
      go true all more = ap₂ ◌++◌ (filter_all (is_numbered n) _ all) more ∙ sym (map-append (entry_row h) (entry_rows_of x) (flat_map entry_rows_of (filter (has_number n) xs)))
      go false all more = ap₂ ◌++◌ (filter_none (is_numbered n) _ all) more

  entries_shown : (o : Option Rows) → map (columns entry_places) (filter (is_numbered n) (part_rows entry_part h o)) ≡ map entry_cells (items_if_any (entries_numbered n) o)
  entries_shown None = refl
  entries_shown (Some r) = ap (map (columns entry_places)) (entries_kept r.auths) ∙ map-map (columns entry_places) (entry_row h) (flat_map entry_rows_of (filter (has_number n) r.auths))

  pub selects_entries : SelectsWith entry_cells 6 (entries_numbered n) by_entry SELECT_NUMBERED_ENTRIES.now h params
  selects_entries = selects_with _ _ _ _ entries_query (entries_numbered n) _ h params (record {
    tests = of_number_tests;
    means = numbered_entries_is;
    keeps = filter (is_numbered n);
    permutes = IsPermutation-filter (is_numbered n);
    picked = rows_picked h params of_number_tests (is_numbered n) number_tests entry_places;
    shows = entries_shown;
  })

-- ---- queries of entries that pass a test

-- what is shown of the rows of a holder's entries that pass
entries_tested : (h : List ℕ) (tests : Row → Bool) (passes : EntryRow → Bool) → ((r : EntryRow) → tests (entry_row h r) ≡ passes r) → (o : Option Rows)
    → map (columns entry_places) (filter tests (part_rows entry_part h o)) ≡ map entry_cells (items_if_any (λ (r : Rows). filter passes (flat_map entry_rows_of r.auths)) o)
entries_tested h tests passes same None = refl
entries_tested h tests passes same (Some r) =
    let rows = flat_map entry_rows_of r.auths in
    ap (λ l. map (columns entry_places) (filter tests l)) (sym (map-flat_map (entry_row h) entry_rows_of r.auths))
    ∙ ap (map (columns entry_places)) (filter-map tests (entry_row h) rows ∙ (λ i. map (entry_row h) (filter (λ x. same x i) rows)))
    ∙ map-map (columns entry_places) (entry_row h) (filter passes rows)

-- ---- the query of the entries that begin at or before an address

module _ (h : List ℕ) (p : Prefix) where
  abbrev pub up_to_params : Row
  up_to_params = Text h ∷ number_cell (family_number p.family) ∷ Blob (address_bytes (last_of p)) ∷ []

  abbrev is_up_to : Row → Bool
  is_up_to c = is_number_cell (family_number p.family) (column c 3) && is_true (binary (Compare Le Binary) (column c 4) (Blob (address_bytes (last_of p))))

  up_to_passes : (r : Row) → picks up_to_params up_to_tests r ≡ (names 0 h (drop 1 r) && is_up_to (drop 1 r))
  up_to_passes r =
      ap₂ ◌&&◌ (equals_text (column r 1) h ∙ ap (is_name_of h) (column_after r 0))
      (ap₂ ◌&&◌ (equals_int (column r 4) (pos (family_number p.family)) ∙ ap (is_number_cell (family_number p.family)) (column_after r 3))
      (last_term (ap (λ v. is_true (binary (Compare Le Binary) v (Blob (address_bytes (last_of p))))) (column_after r 4))))

  up_to_row : (r : EntryRow) → is_up_to (entry_row h r) ≡ begins_up_to p r
  up_to_row r =
      let q = r.entry.prefix in
      ap₂ ◌&&◌ (same_family_number q.family p.family)
      (address_le q.first (last_of p) (below_widest q.family q.first (first_below q)) (last_fits p))

  pub selects_up_to : SelectsWith entry_cells 6 (entries_up_to p) by_entry SELECT_ENTRIES_UP_TO.now h up_to_params
  selects_up_to = selects_with _ _ _ _ entries_query (entries_up_to p) _ h up_to_params (record {
    tests = up_to_tests;
    means = entries_up_to_is;
    keeps = filter is_up_to;
    permutes = IsPermutation-filter is_up_to;
    picked = rows_picked h up_to_params up_to_tests is_up_to up_to_passes entry_places;
    shows = entries_tested h is_up_to (begins_up_to p) up_to_row;
  })

-- ---- the query of the entries that give a VRP

-- five tests one after the other, of which the second to the fourth are those of a prefix
prefix_first : (f i l m : Bool) → (f && (i && (l && m))) ≡ ((f && (i && l)) && m)
prefix_first true true l m = refl
prefix_first true false l m = refl
prefix_first false i l m = refl

module _ (h : List ℕ) (asn : Asn) (e : RoaPrefix) where
  abbrev pub given_params : Row
  given_params = Text h ∷ given_cells asn e

  abbrev is_given : Row → Bool
  is_given c =
      is_number_cell asn.0 (column c 2)
      && (is_number_cell (family_number e.prefix.family) (column c 3)
      && (is_bytes (address_bytes e.prefix.first) (column c 4) && (is_number_cell e.prefix.length (column c 5) && is_number_cell e.max (column c 6))))

  given_passes : (r : Row) → picks given_params given_tests r ≡ (names 0 h (drop 1 r) && is_given (drop 1 r))
  given_passes r =
      ap₂ ◌&&◌ (equals_text (column r 1) h ∙ ap (is_name_of h) (column_after r 0))
      (ap₂ ◌&&◌ (equals_int (column r 3) (pos asn.0) ∙ ap (is_number_cell asn.0) (column_after r 2))
      (ap₂ ◌&&◌ (equals_int (column r 4) (pos (family_number e.prefix.family)) ∙ ap (is_number_cell (family_number e.prefix.family)) (column_after r 3))
      (ap₂ ◌&&◌ (equals_blob (column r 5) (address_bytes e.prefix.first) ∙ ap (is_bytes (address_bytes e.prefix.first)) (column_after r 4))
      (ap₂ ◌&&◌ (equals_int (column r 6) (pos e.prefix.length) ∙ ap (is_number_cell e.prefix.length) (column_after r 5))
      (last_term (equals_int (column r 7) (pos e.max) ∙ ap (is_number_cell e.max) (column_after r 6)))))))

  given_row : (r : EntryRow) → is_given (entry_row h r) ≡ gives_entry asn e r
  given_row r =
      let p = r.entry.prefix in
      ap₂ ◌&&◌ (number_of_number r.asn.0 asn.0)
      (ap₂ ◌&&◌ (same_family_number p.family e.prefix.family)
      (ap₂ ◌&&◌ (same_address p.family e.prefix.family p.first e.prefix.first (first_below p) (first_below e.prefix))
      (ap₂ ◌&&◌ (number_of_number p.length e.prefix.length) (number_of_number r.entry.max e.max)))
      ∙ prefix_first (family_eq p.family e.prefix.family) (p.first == e.prefix.first) (p.length == e.prefix.length) (r.entry.max == e.max))

  pub selects_given : SelectsWith entry_cells 6 (entries_given asn e) by_entry SELECT_GIVEN_ENTRIES.now h given_params
  selects_given = selects_with _ _ _ _ entries_query (entries_given asn e) _ h given_params (record {
    tests = given_tests;
    means = given_entries_is;
    keeps = filter is_given;
    permutes = IsPermutation-filter is_given;
    picked = rows_picked h given_params given_tests is_given given_passes entry_places;
    shows = entries_tested h is_given (gives_entry asn e) given_row;
  })
