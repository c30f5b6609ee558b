-- From what the queries of all rows show to what the tables hold.
use Rattle.store_open.proofs.Vocabulary.{◌≡◌, ℕ, ◌+◌, ◌<◌, true, false, List, [], ◌∷◌, ◌++◌, map, filter, drop, length, codes, slice_get, Some, None, refl, inl, inr, sym, ap, subst, ◌∙◌, is_eq, arith, IsPermutation, ⊤, AllByRecursion, both_ways, length-map, Contains-permutation, IsPermutation-sym, Database, Value, Text, Row, column, value_cmp, rowid, IsAscending, is_int, all_weaker, all_both, all-map, all-permutation, all_from_map, ascending-filter, filter-map, Has, all_has, contains_had, has_filtered, mapped_has, IsSound, Span, CharterSets, IsCharter, Auth, Granted, GrantFits, schema_row, operator_row, prefix_cells, span_cells, grant_cells, holder_row, holding_row, granted_row, first_columns, desk_tables, holder_reference, required_column, meta, operator, pool, holder, holding, granted, slurm, claim, entry, contents, columns, IsTree, AreTrees, names, name_of-true, name_of_itself, all_columns, first_of_all, OfHolder, ShowsSome, ShowsHolder, HoldSomeRows, TablesRead, HasSomeAuths, row_of_claim, shown_in, ShowsNumber, ShowsCharter, ShowExceptions, ShowHolders, ShowAuths, all_whole, all_referred, once, equal_texts, at_claim, column_after, ReadAndHold, ShowsOthers, auth}
use Rattle.sqlite_value.specs.declared.keys.Collation.TheVariants.{Binary}
use Rattle.sqlite_schema.specs.declared.schema.Column.{Column}
use Rattle.sqlite_schema.specs.declared.schema.Kind.TheVariants.{Integer, Text as OfText}
use Rattle.sqlite_schema.specs.declared.schema.Table.{Table}
use Rattle.sqlite_schema.specs.Rules.{equal}
use Rattle.store_tables.proofs.Inserting.{each_table}
use Rattle.store_open.proofs.SomeAuths.{auths_read}
use Rattle.store_open.proofs.SomeRows.{IsPartRow, holds_parts}
use Rattle.store_transactions.proofs.HeldRows.{files_few}

module _ (db : Database) (tables : db.schema.tables ≡ desk_tables) (sound : IsSound db.schema db.trees) where
  -- a table of so many columns shows all of its rows
  pub all_shown : (t : Table) (k : ℕ) (last : Column) → Has desk_tables t → t.key ≡ None → slice_get t.columns k ≡ Some last → last.not_null ≡ true → length t.columns ≡ k + 1
      → map (first_columns (k + 1)) (contents (db.trees t.tree)) ≡ contents (db.trees t.tree)
  all_shown t k last has key is required count =
      first_of_all (k + 1) (contents (db.trees t.tree))
      (all-map (λ c. length c ≡ k + 1) (drop 1) (db.trees t.tree) (all_whole db.schema db.trees tables sound t has key k last is required count))

  abbrev holders : List Row
  holders = contents (db.trees holder.tree)

  at_holder : Has desk_tables holder
  at_holder = inr (inr (inr (inl refl)))

  abbrev Makes : Row → Type 0
  Makes c = (h : List ℕ) × (n : ℕ × ℕ) × (c ≡ holder_row h n.0 n.1)

  -- ---- holders

  module _ (shown : ShowHolders db) where
    holders_read : AllByRecursion ShowsHolder holders
    holders_read = subst (AllByRecursion ShowsHolder) (all_shown holder 2 (required_column (codes "auths") Integer) at_holder refl refl refl refl) shown.holders.each

    made : AllByRecursion Makes holders
    made = all_weaker ShowsHolder Makes (λ c it. (it.0.name, (it.0.counters.granted, it.0.counters.created), it.2)) holders holders_read

    -- ---- nobody is registered twice

    named_at : (h : List ℕ) (r : Row) → names 0 h (drop 1 r) ≡ true → column r 1 ≡ Text h
    named_at h r is = column_after r 0 ∙ name_of-true h (column (drop 1 r) 0) is

    one_of : (h : List ℕ) (l : List Row) → ((r : Row) → Has l r → Has (db.trees holder.tree) r × (names 0 h (drop 1 r) ≡ true))
        → IsAscending (λ a b. is_eq (value_cmp (rowid a) (rowid b)) ≡ false) l → length l < 2
    one_of h [] from up = omega arith
    one_of h (a ∷ []) from up = omega arith
    one_of h (a ∷ b ∷ l) from up =
        let one = from a (inl refl) in
        let other = from b (inr (inl refl)) in
        let int = λ (r : Row) (has : Has (db.trees holder.tree) r). all_has (λ r. is_int (rowid r) ≡ true) (db.trees holder.tree) r shown.holders.whole.1 has in
        let apart = once db.schema db.trees tables sound a b one.0 other.0 (int a one.0) (int b other.0) up.0.0 in
        let alike : equal Binary (column a 1) (column b 1) ≡ true =
        (λ i. equal Binary (named_at h a one.1 i) (column b 1)) ∙ equal_texts h (column b 1) ∙ name_of_itself h (column b 1) (named_at h b other.1) in
        absurd (both_ways _ apart alike)

    one_counter : (h : List ℕ) (xs : List (ℕ × ℕ)) → map (λ (n : ℕ × ℕ). holder_row h n.0 n.1) xs ≡ filter (names 0 h) holders → length xs < 2
    one_counter h xs same =
        let rows = db.trees holder.tree in
        let mine = λ (r : Row). names 0 h (drop 1 r) in
        let one = one_of h (filter mine rows) (has_filtered mine rows) (ascending-filter _ mine rows shown.holders.whole.0) in
        let as_rows = same ∙ filter-map (names 0 h) (drop 1) rows in
        omega (arith, one, ap length as_rows, length-map xs (λ (n : ℕ × ℕ). holder_row h n.0 n.1), length-map (filter mine rows) (drop 1))

    -- ---- the rows of the other tables

    module _ {X : Type 0} (t : Table) (has : Has desk_tables t) (key : t.key ≡ None) (last : ℕ) (ends : Column)
        (is : slice_get t.columns last ≡ Some ends) (filled : ends.not_null ≡ true) (count : length t.columns ≡ last + 1)
        (place : ℕ) (column_of : Column) (at : slice_get t.columns place ≡ Some column_of) (named : column_of.not_null ≡ true) (refers : t.references ≡ holder_reference (place + 1) ∷ [])
        (places : List ℕ) (cells : X → Row) (fits : X → Type 0) (row : List ℕ → X → Row)
        (joins : (c : Row) (h : List ℕ) (x : X) → length c ≡ last + 1 → column c place ≡ Text h → columns places c ≡ cells x → c ≡ row h x)
        (each : AllByRecursion (ShowsSome cells fits) (shown_in t.tree places db)) where
      abbrev Refers : Row → Type 0
      Refers r = (p : Row) × Has (db.trees holder.tree) p × (equal Binary (column p 1) (column r (place + 1)) ≡ true)

      abbrev IsReadRow : Row → Type 0
      IsReadRow = IsPartRow X fits row holders

      part_row : (r : Row) → length (drop 1 r) ≡ last + 1 → Refers r → ShowsSome cells fits (columns places (drop 1 r)) → IsReadRow (drop 1 r)
      part_row r whole parent value =
          let p = drop 1 parent.0 in
          let among = mapped_has (drop 1) (db.trees holder.tree) parent.0 parent.1 in
          let it = all_has Makes holders p made among in
          let name : column p 0 ≡ Text it.0 = ap (λ c. column c 0) it.2 in
          let same : equal Binary (column parent.0 1) (column r (place + 1)) ≡ equal Binary (Text it.0) (column r (place + 1)) =
          ap (λ v. equal Binary v (column r (place + 1))) (column_after parent.0 0 ∙ name) in
          let held = name_of-true it.0 (column r (place + 1)) (sym (equal_texts it.0 (column r (place + 1))) ∙ sym same ∙ parent.2) in
          let after : column r (place + 1) ≡ column (drop 1 r) place = subst (λ n. column r n ≡ column (drop 1 r) place) (omega arith) (column_after r place) in
          let is = joins (drop 1 r) it.0 value.0 whole (sym after ∙ held) value.2 in
          record { name = it.0; value = value.0; in_range = value.1; is = is; registered = (p, among, name) }

      part_rows_of : AllByRecursion IsReadRow (contents (db.trees t.tree))
      part_rows_of =
          let rows = db.trees t.tree in
          let values = all_from_map (λ c. ShowsSome cells fits (columns places c)) (drop 1) rows (all_from_map (ShowsSome cells fits) (columns places) (contents rows) each) in
          let widths = all_whole db.schema db.trees tables sound t has key last ends is filled count in
          let parents = all_referred db.schema db.trees tables sound t has key place column_of at named refers in
          let both = all_both (λ r. length (drop 1 r) ≡ last + 1) Refers (λ r. (length (drop 1 r) ≡ last + 1) × Refers r) (λ r w p. (w, p)) rows widths parents in
          all-map IsReadRow (drop 1) rows
          (all_both (λ r. (length (drop 1 r) ≡ last + 1) × Refers r) (λ r. ShowsSome cells fits (columns places (drop 1 r))) _ (λ r it value. part_row r it.0 it.1 value) rows both values)

    held : AllByRecursion (IsPartRow Span (λ _. ⊤) holding_row holders) (contents (db.trees holding.tree))
    held =
        part_rows_of holding (inr (inr (inr (inr (inl refl))))) refl 3 (required_column (codes "holder") OfText) refl refl refl 3 (required_column (codes "holder") OfText) refl refl refl
        (0 ∷ 1 ∷ 2 ∷ []) span_cells (λ _. ⊤) holding_row
        (λ c h s whole name shows. all_columns 4 c whole ∙ (λ i. shows i ++ name i ∷ [])) shown.holdings.each

    given : AllByRecursion (IsPartRow Granted GrantFits granted_row holders) (contents (db.trees granted.tree))
    given =
        part_rows_of granted (inr (inr (inr (inr (inr (inl refl)))))) refl 7 (required_column (codes "until") Integer) refl refl refl 0 (required_column (codes "holder") OfText) refl refl refl
        (1 ∷ 2 ∷ 3 ∷ 4 ∷ 5 ∷ 6 ∷ 7 ∷ []) grant_cells GrantFits granted_row
        (λ c h g whole name shows. all_columns 8 c whole ∙ (λ i. name i ∷ shows i)) shown.grants.each

    -- ---- authorizations

    module _ (authorized : ShowAuths db) where
      have_auths : HasSomeAuths db.trees
      have_auths = auths_read db tables sound authorized

      -- the holder of a row of a claim is registered
      abbrev IsOfHolder : Row → Type 0
      IsOfHolder c = (p : Row) × Has holders p × (equal Binary (column p 0) (column c 0) ≡ true)

      referred : (r : Row) → (p : Row) × Has (db.trees holder.tree) p × (equal Binary (column p 1) (column r 1) ≡ true) → IsOfHolder (drop 1 r)
      referred r it =
          (drop 1 it.0, mapped_has (drop 1) (db.trees holder.tree) it.0 it.1, subst (λ (v : Value). equal Binary v (column (drop 1 r) 0) ≡ true) (column_after it.0 0) (subst (λ (v : Value). equal Binary (column it.0 1) v ≡ true) (column_after r 0) it.2))

      claims_referred : AllByRecursion IsOfHolder (contents (db.trees claim.tree))
      claims_referred =
          all-map IsOfHolder (drop 1) (db.trees claim.tree)
          (all_weaker _ _ referred (db.trees claim.tree) (all_referred db.schema db.trees tables sound claim at_claim refl 0 (required_column (codes "holder") OfText) refl refl refl))

      -- so is that of an authorization
      registered : AllByRecursion (λ (x : OfHolder Auth). (p : Row) × Has holders p × (column p 0 ≡ Text x.holder)) have_auths.auths
      registered =
          all_weaker _ _ (λ x it.
          let name = all_has Makes holders it.0 made it.1 in
          let texts : column it.0 0 ≡ Text name.0 = ap (λ c. column c 0) name.2 in
          let same = subst (λ (v : Value). equal Binary v (Text x.holder) ≡ true) texts it.2 in
          (it.0, it.1, texts ∙ sym (name_of-true name.0 (Text x.holder) (sym (equal_texts name.0 (Text x.holder)) ∙ same)))) have_auths.auths
          (all_from_map IsOfHolder row_of_claim have_auths.auths (all-permutation IsOfHolder _ _ (IsPermutation-sym _ _ have_auths.claims_shown) claims_referred))

    -- ---- all of them

    module _ (authorized : ShowAuths db) (charter : CharterSets) (schema : ShowsNumber false db) (chartered : ShowsCharter charter db) (excepted : ShowExceptions db) where
      trees_whole : AreTrees db.trees
      trees_whole =
          let later : AllByRecursion (λ (t : Table). IsTree (db.trees t.tree)) (auth ∷ slurm ∷ claim ∷ entry ∷ []) = (subst IsTree (sym authorized.unused) (tt, tt), (excepted.rows.whole, (authorized.claims_whole, (authorized.entries_whole, tt)))) in
          each_table (λ t. IsTree (db.trees t)) desk_tables
          (schema.whole, (chartered.operators.whole, (chartered.pool.whole, (shown.holders.whole, (shown.holdings.whole, (shown.grants.whole, later))))))

      schema_only : IsPermutation (schema_row ∷ []) (contents (db.trees meta.tree))
      schema_only = subst (IsPermutation _) (all_shown meta 1 (required_column (codes "value") Integer) (inl refl) refl refl refl refl) schema.shown

      operators_only : IsPermutation (map operator_row charter.operators) (contents (db.trees operator.tree))
      operators_only = subst (IsPermutation _) (all_shown operator 0 (required_column (codes "name") OfText) (inr (inl refl)) refl refl refl refl) chartered.operators.shown

      pool_only : IsPermutation (map prefix_cells charter.pool) (contents (db.trees pool.tree))
      pool_only = subst (IsPermutation _) (all_shown pool 2 (required_column (codes "len") Integer) (inr (inr (inl refl))) refl refl refl refl) chartered.pool.shown

      tables_read : IsCharter charter → TablesRead db.trees
      tables_read sets = record {
        schema = Contains-permutation (schema_row ∷ []) (contents (db.trees meta.tree)) schema_row schema_only (contains_had (schema_row ∷ []) schema_row (inl refl));
        common = record {
          charter = record { sets = charter; valid = sets; named = chartered.named; operators_shown = operators_only; pool_shown = pool_only };
          holders = holders_read;
          holdings = all_weaker _ _ (λ c it. (it.name, it.value, it.in_range, it.is)) (contents (db.trees holding.tree)) held;
          grants = all_weaker _ _ (λ c it. (it.name, it.value, it.in_range, it.is)) (contents (db.trees granted.tree)) given;
          exceptions = excepted.rows.each;
          exceptions_number = files_few excepted.files.0 (contents (db.trees slurm.tree)) excepted.files.1 excepted.files.2;
        };
        authorizations = have_auths authorized;
      }

      some_rows : HoldSomeRows charter db.trees
      some_rows =
          let auths = have_auths authorized in
          let parts = holds_parts holders made one_counter (contents (db.trees holding.tree)) (contents (db.trees granted.tree)) (contents (db.trees claim.tree)) (contents (db.trees entry.tree)) held given auths.auths (registered authorized) auths.claims_shown auths.entries_shown in (
            record { of_holder = parts.rows; files = excepted.files.0 },
            record {
              charter_kept = record {
                schema = schema_only;
                operators = operators_only;
                pool = pool_only;
              };
              holders = parts.holders_held;
              holdings = parts.holdings_held;
              grants = parts.grants_held;
              claims = parts.claims_held;
              entries = parts.entries_held;
              have_entries = parts.entries_had (all_weaker _ _ (λ x fits. fits.1.entries) auths.auths auths.fit);
              unused = auths.unused;
              files = excepted.files.1;
              whole = trees_whole;
            },
            excepted.files.2,
          )

  pub read_and_hold : (charter : CharterSets) → ShowsOthers charter db → ShowAuths db → ReadAndHold charter db
  read_and_hold charter others authorized =
      (some_rows others.holders authorized charter others.numbered others.chartered others.excepted, tables_read others.holders authorized charter others.numbered others.chartered others.excepted others.valid)
