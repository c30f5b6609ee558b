-- What DELETE does, whatever the table.
use Rattle.store_tables.proofs.Vocabulary.{◌≡◌, ℕ, ◌==◌, Bool, true, false, not, List, [], ◌∷◌, map, filter, drop, slice_get, Some, None, Ok, sym, ap, subst, ◌∙◌, IsPermutation, IsPermutation-map, IsPermutation-refl, Tally, Does, AtPlace, OnRows, Database, Answers, Written, State, mode_of, Writes, one_step, Null, Row, Trees, rowid, map-map, ascending-filter, all-filter, filter-map, Term, col, eval_all, Enforced, Schema, Table, Program, Delete, Given, ids_of, Applies, edit_of, id_in, taken_by, as_strict, with_tables, claim, desk_beside, desk_tables, contents, IsTree, EditsAmong, Edits}
use Rattle.sqlite_rules.specs.Action as action
use Rattle.store_tables.proofs.Actions.{any_acts_at, quiet_elsewhere, quiet_but_claims}
use Rattle.store_tables.proofs.TreeRows.{without_picked}
use Rattle.store_tables.proofs.Inserting.{went, same_value, at_table}
use Rattle.store_tables.proofs.Selecting.{from_table, no_limit, picks, permuted}

-- the rowids that a query shows first are those of the rows that it picks
pub shown_ids : (tests sets : List Term) (tree rows : List Row) (params : Row)
    → IsPermutation (map (λ r. eval_all (col 1 0 ∷ sets) (params ∷ r ∷ [])) (filter (picks params tests) tree)) rows
    → IsPermutation (map (λ r. id_in (rowid r)) (filter (picks params tests) tree)) (ids_of rows)
shown_ids tests sets tree rows params same =
    subst (λ l. IsPermutation l (ids_of rows)) (map-map (λ r. id_in (rowid r)) (λ r. eval_all (col 1 0 ∷ sets) (params ∷ r ∷ [])) _)
    (IsPermutation-map (λ r. id_in (rowid r)) _ _ same)

-- the rows that stay, where the tests read the columns alone
pub rows_left : (picked goes : Row → Bool) → ((r : Row) → picked r ≡ goes (drop 1 r)) → (rows : List Row)
    → contents (filter (λ r. not (picked r)) rows) ≡ filter (λ c. not (goes c)) (contents rows)
rows_left picked goes same rows = (λ i. contents (filter (λ r. not (same r i)) rows)) ∙ sym (filter-map (λ c. not (goes c)) (drop 1) rows)

-- DELETE FROM the table, WHERE tests
abbrev pub deletion_of : Table → List Term → Program
deletion_of t tests = record { lets = []; body = from_table t.tree tests (col 1 0 ∷ []) [] no_limit }

module _ (tables : List Table) (at : ℕ) (t : Table) (there : slice_get tables at ≡ Some (as_strict t)) (s : Schema) where
  abbrev table : Table
  table = as_strict t

  -- whatever rows the deletion finds, its foreign keys act on no other
  abbrev pub IsOneStep : List Term → Row → Trees → Type 0
  IsOneStep tests params db = (rows : List Row) (next : Trees) → Answers (record { schema = with_tables tables s; trees = db }) (deletion_of t tests) params rows
      → let edit = edit_of db table (ids_of rows) Given 0 [] in action.Writes (with_tables tables s) Enforced db edit (Ok next) → Applies (with_tables tables s) Enforced db edit next

  -- the rows that a deletion finds, and that they are written away
  pub found_among : (tests : List Term) (old new : State) (text : List ℕ) (params : Row) (count : ℕ) → old.now.schema ≡ with_tables tables s
      → Writes old new None (Delete at (deletion_of t tests)) text params count
      → (rows : List Row) × Answers (record { schema = with_tables tables s; trees = old.now.trees }) (deletion_of t tests) params rows × (new.now.schema ≡ with_tables tables s)
      × action.Writes (with_tables tables s) Enforced old.now.trees (edit_of old.now.trees table (ids_of rows) Given 0 []) (Ok new.now.trees)
  found_among tests old new text params count has w =
      let db = old.now.trees in
      let command = Delete at (deletion_of t tests) in
      let found = subst (λ k. Does old.step_limit (mode_of old) params (record old.now { schema = k }) text None command (Ok (w.tally, new.now))) has w.changed in
      let done = went (subst (λ o. AtPlace (λ t. OnRows (record { limit = old.step_limit; keys = Enforced; schema = with_tables tables s; table = t; params = params }) (mode_of old) None command db) o (Ok (w.tally, new.now))) there found) in
      let now = ap (λ (p : Tally × Database). p.1) (same_value (went (went done.2).2).2) in
      let given = went done.1 in
      let written = went given.2 in
      let trees : new.now.trees ≡ written.0 = ap (λ (d : Database). d.trees) now ∙ ap (λ (it : Written). it.trees) (same_value written.2) in
      let edit = edit_of db table (ids_of given.0) Given 0 [] in
      (given.0, given.1, ap (λ (d : Database). d.schema) now, subst (λ next. action.Writes (with_tables tables s) Enforced db edit (Ok next)) (sym trees) written.1)

  pub applied_among : (tests : List Term) (old new : State) (text : List ℕ) (params : Row) (count : ℕ) → old.now.schema ≡ with_tables tables s → IsOneStep tests params old.now.trees
      → Writes old new None (Delete at (deletion_of t tests)) text params count
      → (rows : List Row) × Answers (record { schema = with_tables tables s; trees = old.now.trees }) (deletion_of t tests) params rows × (new.now.schema ≡ with_tables tables s)
      × Applies (with_tables tables s) Enforced old.now.trees (edit_of old.now.trees table (ids_of rows) Given 0 []) new.now.trees
  applied_among tests old new text params count has step w =
      let it = found_among tests old new text params count has w in
      (it.0, it.1, it.2, step it.0 new.now.trees it.1 it.3)

  deleted : (tests : List Term) (goes : Row → Bool) (params : Row) (rows : List Row) (old next : Database) → old.schema ≡ with_tables tables s → next.schema ≡ with_tables tables s
      → ((r : Row) → picks params tests r ≡ goes (drop 1 r)) → IsTree (old.trees t.tree)
      → IsPermutation (map (λ r. eval_all (col 1 0 ∷ []) (params ∷ r ∷ [])) (filter (picks params tests) (old.trees t.tree))) rows
      → Applies (with_tables tables s) Enforced old.trees (edit_of old.trees table (ids_of rows) Given 0 []) next.trees
      → EditsAmong tables t.tree (filter (λ c. not (goes c))) old next
  deleted tests goes params rows old next has keeps same sound shown made =
      let stay : next.trees t.tree ≡ filter (λ r. not (picks params tests r)) (old.trees t.tree) =
      made.rows ∙ without_picked (old.trees t.tree) sound (picks params tests) (ids_of rows) (shown_ids tests [] (old.trees t.tree) rows params shown) in
      record {
        schema = keeps ∙ sym has;
        others = at_table (λ t. next.trees t ≡ old.trees t) t.tree tables made.tables;
        rows = subst (IsPermutation (filter (λ c. not (goes c)) (contents (old.trees t.tree)))) (sym (ap contents stay ∙ rows_left (picks params tests) goes same (old.trees t.tree))) (IsPermutation-refl _);
        whole = λ sound. subst IsTree (sym stay) (ascending-filter _ (λ r. not (picks params tests r)) _ sound.0, all-filter _ (λ r. not (picks params tests r)) _ sound.1);
      }

  pub takes_among : (tests : List Term) (goes : Row → Bool) (old new : State) (text : List ℕ) (params : Row) (count : ℕ) → old.now.schema ≡ with_tables tables s
      → ((r : Row) → picks params tests r ≡ goes (drop 1 r)) → IsTree (old.now.trees t.tree) → IsOneStep tests params old.now.trees
      → Writes old new None (Delete at (deletion_of t tests)) text params count → EditsAmong tables t.tree (filter (λ c. not (goes c))) old.now new.now
  takes_among tests goes old new text params count has same sound step w =
      let it = applied_among tests old new text params count has step w in
      deleted tests goes params it.0 old.now new.now has it.2 same sound (permuted t.tree tests (col 1 0 ∷ []) [] old.now.trees params it.0 (it.1.answer Null)) it.3

  -- so it is where no reference points to the table
  pub one_quiet_step : any_acts_at Enforced true tables t.tree ≡ false → (tests : List Term) (params : Row) (db : Trees) → IsOneStep tests params db
  one_quiet_step quiet tests params db rows next answers made =
      let edit = edit_of db table (ids_of rows) Given 0 [] in
      one_step (with_tables tables s) Enforced db next edit (quiet_elsewhere (with_tables tables s) Enforced t.tree (taken_by db edit) [] quiet) made

-- so among the tables of a desk but the claims, whose entries would go with them
module _ (at : ℕ) (t : Table) (there : slice_get desk_tables at ≡ Some (as_strict t)) (other : (claim.tree == t.tree) ≡ false) (s : Schema) where
  step : (tests : List Term) (params : Row) (db : Trees) → IsOneStep desk_tables at t there s tests params db
  step = one_quiet_step desk_tables at t there s (quiet_but_claims t.tree other)

  pub applied : (tests : List Term) (old new : State) (text : List ℕ) (params : Row) (count : ℕ) → old.now.schema ≡ desk_beside s
      → Writes old new None (Delete at (deletion_of t tests)) text params count
      → (rows : List Row) × Answers (record { schema = desk_beside s; trees = old.now.trees }) (deletion_of t tests) params rows × (new.now.schema ≡ desk_beside s)
      × Applies (desk_beside s) Enforced old.now.trees (edit_of old.now.trees (as_strict t) (ids_of rows) Given 0 []) new.now.trees
  applied tests old new text params count has w = applied_among desk_tables at t there s tests old new text params count has (step tests params old.now.trees) w

  pub takes : (tests : List Term) (goes : Row → Bool) (old new : State) (text : List ℕ) (params : Row) (count : ℕ) → old.now.schema ≡ desk_beside s
      → ((r : Row) → picks params tests r ≡ goes (drop 1 r)) → IsTree (old.now.trees t.tree)
      → Writes old new None (Delete at (deletion_of t tests)) text params count → Edits t.tree (filter (λ c. not (goes c))) old.now new.now
  takes tests goes old new text params count has same sound w = takes_among desk_tables at t there s tests goes old new text params count has same sound (step tests params old.now.trees) w
