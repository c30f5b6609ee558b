-- What INSERT from a query over another table does, whatever the two tables.
use Rattle.store_schema.proofs.Vocabulary.{◌≡◌, ℕ, Bool, true, false, cond, List, [], ◌∷◌, ◌++◌, map, drop, slice_get, Some, None, refl, sym, ap₂, subst, ◌∙◌, append-nil, IsPermutation, map-append, IsPermutation-map, IsPermutation-trans, IsPermutation-append_left, Database, State, Writes, Value, Null, Int, Row, Trees, rowid, put_row, map-map, Term, eval_all, Schema, Table, Command, Insert, cast_row, as_strict, with_tables, contents, IsTree, EditsAmong, applied, at_table}
use Rattle.sqlite_value.specs.declared.keys.Collation.{Collation}
use Rattle.sqlite_sql.specs.Query.{Query, IsAnswer}
use Rattle.sqlite_sql.specs.Program.{overlay}
use Rattle.sqlite_schema.specs.declared.schema.Keys.TheVariants.{Enforced}
use Rattle.sqlite_schema.specs.declared.command.Source.TheVariants as source
use Rattle.sqlite_rules.specs.declared.error.Rowids.{Rowids}
use Rattle.sqlite_rules.specs.declared.error.Rowids.TheVariants.{Chosen}
use Rattle.sqlite_rules.specs.Edit.{Applies, edit_of, with_rowid, is_chosen, at_least, next_rowid, numbered, put_all}
use Rattle.store_tables.proofs.TreeRows.{put_all_permutes, put_all_tree, all_kept}
use Rattle.store_tables.proofs.Selecting.{from_table, no_limit, permuted}

-- SELECT shown FROM one table, for INSERT, whose query has a collation for each column
abbrev pub all_of_table : ℕ → List Term → List Collation → Query
all_of_table tree shown by = record (from_table tree [] shown [] no_limit) { collations = by }

-- INSERT INTO the table at a place, the rows that the query shows
abbrev pub copies : ℕ → ℕ → List Term → List Collation → Command
copies at tree shown by = Insert at (source.Query (record { lets = []; body = all_of_table tree shown by }))

-- without DISTINCT no collation is read
answers_plain : (tree : ℕ) (shown : List Term) (by : List Collation) (db : Trees) (params : Row) (rows : List Row)
    → IsAnswer (all_of_table tree shown by) db params rows → IsAnswer (from_table tree [] shown [] no_limit) db params rows
answers_plain tree shown by db params rows a =
    record { staged = a.staged; grouped = a.grouped; kept = a.kept; distinct = a.distinct; ordered = a.ordered; same = a.same; sorted = a.sorted; shown = a.shown }

-- the query shows a row for each row of its table
pub shows_all : (tree : ℕ) (shown : List Term) (by : List Collation) (db : Trees) (params : Row) (rows : List Row)
    → IsAnswer (all_of_table tree shown by) (overlay db []) params rows → IsPermutation (map (λ r. eval_all shown (params ∷ r ∷ [])) (db tree)) rows
shows_all tree shown by db params rows a =
    subst (λ all. IsPermutation (map (λ r. eval_all shown (params ∷ r ∷ [])) all) rows) (all_kept (db tree))
    (permuted tree [] shown [] db params rows (answers_plain tree shown by (overlay db []) params rows a))

-- a rowid in the place of another changes no column
renumbered : (chosen : Bool) (id : Value) (r : Row) → drop 1 (cond chosen (id ∷ drop 1 r) r) ≡ drop 1 r
renumbered true id r = refl
renumbered false id r = refl

pub numbered_contents : (rowids : Rowids) (rows news : List Row) → contents (numbered rowids rows news) ≡ contents news
numbered_contents rowids rows [] = refl
numbered_contents rowids rows (r ∷ news) = ap₂ ◌∷◌ (renumbered (is_chosen rowids (rowid r)) (Int (at_least rowids (next_rowid rows))) r) (numbered_contents rowids (put_row (with_rowid rowids rows r) rows) news)

module _ (tables : List Table) (at : ℕ) (t : Table) (there : slice_get tables at ≡ Some (as_strict t)) (s : Schema) where
  abbrev table : Table
  table = as_strict t

  -- the columns that a row is copied to
  abbrev pub copied : List Term → Row → Row → Row
  copied shown params r = drop 1 (cast_row table (eval_all shown (params ∷ r ∷ [])))

  -- the columns of the rows that the query shows
  shown_cells : (shown : List Term) (params : Row) (rows from : List Row) → IsPermutation (map (λ r. eval_all shown (params ∷ r ∷ [])) from) rows
      → IsPermutation (map (copied shown params) from) (contents (map (cast_row table) rows))
  shown_cells shown params rows from same =
      subst (IsPermutation (map (copied shown params) from)) (sym (map-map (drop 1) (cast_row table) rows))
      (subst (λ l. IsPermutation l (map (λ r. drop 1 (cast_row table r)) rows)) (map-map (λ r. drop 1 (cast_row table r)) (λ r. eval_all shown (params ∷ r ∷ [])) from)
      (IsPermutation-map (λ r. drop 1 (cast_row table r)) _ _ same))

  put : (cells rows : List Row) (old next : Database) → old.schema ≡ with_tables tables s → next.schema ≡ with_tables tables s
      → IsPermutation cells (contents (map (cast_row table) rows)) → Applies (with_tables tables s) Enforced old.trees (edit_of old.trees table [] Chosen 0 rows) next.trees
      → EditsAmong tables t.tree (λ there. cells ++ there) old next
  put cells rows old next has keeps shown made =
      let was : List Row = old.trees t.tree in
      let news : List Row = numbered Chosen was (map (cast_row table) rows) in
      let typed : IsPermutation cells (contents news) = subst (IsPermutation cells) (sym (numbered_contents Chosen was (map (cast_row table) rows))) shown in
      let joined : IsPermutation (contents news ++ contents was) (contents (put_all was news)) =
      subst (λ l. IsPermutation l (contents (put_all was news))) (map-append (drop 1) news was) (IsPermutation-map (drop 1) _ _ (put_all_permutes news was made.fresh)) in
      let all : IsPermutation (cells ++ contents was) (contents (put_all was news)) = IsPermutation-trans _ _ _ (IsPermutation-append_left (contents was) _ _ typed) joined in
      record {
        schema = keeps ∙ sym has;
        others = at_table (λ t. next.trees t ≡ old.trees t) t.tree tables made.tables;
        rows = subst (λ l. IsPermutation (cells ++ contents was) (contents l)) (sym made.rows) all;
        whole = λ sound. subst IsTree (sym made.rows) (put_all_tree news was made.keyed made.fresh sound);
      }

  -- each row of the other table is put, as the query shows it and the columns cast it
  pub puts_shown : (tree : ℕ) (shown : List Term) (by : List Collation) (old new : State) (text : List ℕ) (params : Row) (count : ℕ) → old.now.schema ≡ with_tables tables s
      → Writes old new None (copies at tree shown by) text params count → EditsAmong tables t.tree (λ rows. map (copied shown params) (old.now.trees tree) ++ rows) old.now new.now
  puts_shown tree shown by old new text params count has w =
      let it = applied tables at t there s (source.Query (record { lets = []; body = all_of_table tree shown by })) old new text params count has w in
      let answer : IsAnswer (all_of_table tree shown by) (overlay old.now.trees []) params it.0 =
      subst (λ p. IsAnswer (all_of_table tree shown by) (overlay old.now.trees []) p it.0) (append-nil params) (it.1.answer Null) in
      put (map (copied shown params) (old.now.trees tree)) it.0 old.now new.now has it.2 (shown_cells shown params it.0 (old.now.trees tree) (shows_all tree shown by old.now.trees params it.0 answer)) it.3
