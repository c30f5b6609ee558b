-- What UPDATE does, whatever the table.
use Rattle.store_tables.proofs.Vocabulary.{◌≡◌, ℕ, Bool, true, false, cond, if◌then◌else◌, not, List, [], ◌∷◌, ◌++◌, map, filter, drop, length, slice_get, unwrap_or, Some, None, Ok, refl, sym, ap, subst, subst₂, ◌∙◌, IsPermutation, map-append, length-map, IsPermutation-map, IsPermutation-trans, IsPermutation-append_left, IsPermutation-filter_both, Tally, Does, AtPlace, OnRows, Database, Answers, Written, State, mode_of, Writes, one_step, Null, Row, map-map, ascending-filter, all-filter, Term, col, eval_all, Enforced, Schema, Table, Program, Update, Given, ids_of, cast_all, cast_row, Applies, edit_of, numbered, put_all, without_all, have_rowids, are_fresh, as_strict, with_tables, desk_beside, desk_tables, contents, IsTree, EditsAmong, Edits}
use Rattle.sqlite_rules.proofs.PlaceLemmas.{given}
use Rattle.store_tables.proofs.Actions.{any_acts_at, updates_quietly}
use Rattle.store_tables.proofs.TreeRows.{without_picked, put_all_permutes, put_all_tree}
use Rattle.store_tables.proofs.Inserting.{went, same_value, at_table}
use Rattle.store_tables.proofs.Selecting.{from_table, no_limit, picks, permuted}
use Rattle.store_tables.proofs.Deleting.{shown_ids}

-- the row as it is changed, where the test passes
abbrev pub changed_if : (Row → Bool) → (Row → Row) → Row → Row
changed_if goes change c = if goes c then change c else c

picked_changed : {A B : Type 0} (p : A → Bool) (f g : A → B) (xs : List A) → map (λ x. cond (p x) (f x) (g x)) (filter p xs) ≡ map f (filter p xs)
picked_changed p f g [] = refl
picked_changed {A} {B} p f g (x ∷ xs) = go (p x) refl (picked_changed p f g xs)
  where
    go : (b : Bool) → p x ≡ b → map (λ y. cond (p y) (f y) (g y)) (filter p xs) ≡ map f (filter p xs) → map (λ y. cond (p y) (f y) (g y)) (cond b (x ∷ filter p xs) (filter p xs)) ≡ map f (cond b (x ∷ filter p xs) (filter p xs))
    go true e more = rw (e, more)
    go false e more = more

passed_kept : {A B : Type 0} (p : A → Bool) (f g : A → B) (xs : List A) → map (λ x. cond (p x) (f x) (g x)) (filter (λ x. not (p x)) xs) ≡ map g (filter (λ x. not (p x)) xs)
passed_kept p f g [] = refl
passed_kept {A} {B} p f g (x ∷ xs) = go (p x) refl (passed_kept p f g xs)
  where
    go : (b : Bool) → p x ≡ b → map (λ y. cond (p y) (f y) (g y)) (filter (λ y. not (p y)) xs) ≡ map g (filter (λ y. not (p y)) xs)
        → map (λ y. cond (p y) (f y) (g y)) (cond (not b) (x ∷ filter (λ y. not (p y)) xs) (filter (λ y. not (p y)) xs)) ≡ map g (cond (not b) (x ∷ filter (λ y. not (p y)) xs) (filter (λ y. not (p y)) xs))
    go true e more = more
    go false e more = rw (e, more)

-- the picked rows changed, and then the others, are all rows changed where they are picked
pub in_two : {A B : Type 0} (p : A → Bool) (f g : A → B) (xs : List A) → IsPermutation (map (λ x. cond (p x) (f x) (g x)) xs) (map f (filter p xs) ++ map g (filter (λ x. not (p x)) xs))
in_two p f g xs =
    subst (IsPermutation (map (λ x. cond (p x) (f x) (g x)) xs))
    (map-append (λ x. cond (p x) (f x) (g x)) (filter p xs) (filter (λ x. not (p x)) xs) ∙ (λ i. picked_changed p f g xs i ++ passed_kept p f g xs i))
    (IsPermutation-map (λ x. cond (p x) (f x) (g x)) _ _ (IsPermutation-filter_both p (λ x. not (p x)) (λ x. refl) xs))

-- the query shows the rowid twice, and then the new columns
abbrev pub new_rows : List Term → List Term
new_rows sets = col 1 0 ∷ col 1 0 ∷ sets

-- UPDATE of the table, WHERE tests
abbrev pub update_of : Table → List Term → List Term → Program
update_of t tests sets = record { lets = []; body = from_table t.tree tests (new_rows sets) [] no_limit }

module _ (tables : List Table) (at : ℕ) (t : Table) (there : slice_get tables at ≡ Some (as_strict t)) (s : Schema) where
  abbrev table : Table
  table = as_strict t

  -- as many rows are written as the query shows
  as_many : (was rows : List Row) → length (numbered Given was (map (λ s. cast_row table (drop 1 s)) rows)) ≡ length rows
  as_many was rows = ap length (given was (map (λ s. cast_row table (drop 1 s)) rows)) ∙ length-map _ _

  pub applied_among : (tests sets : List Term) (old new : State) (text : List ℕ) (params : Row) (count : ℕ) → old.now.schema ≡ with_tables tables s → any_acts_at Enforced false tables t.tree ≡ false
      → Writes old new None (Update at (update_of t tests sets)) text params count
      → (rows : List Row) × Answers (record { schema = with_tables tables s; trees = old.now.trees }) (update_of t tests sets) params rows × (new.now.schema ≡ with_tables tables s)
      × Applies (with_tables tables s) Enforced old.now.trees (edit_of old.now.trees table (ids_of rows) Given 1 rows) new.now.trees × (count ≡ length rows)
  applied_among tests sets old new text params count has quiet w =
      let db = old.now.trees in
      let command = Update at (update_of t tests sets) in
      let found = subst (λ k. Does old.step_limit (mode_of old) params (record old.now { schema = k }) text None command (Ok (w.tally, new.now))) has w.changed in
      let done = went (subst (λ o. AtPlace (λ t. OnRows (record { limit = old.step_limit; keys = Enforced; schema = with_tables tables s; table = t; params = params }) (mode_of old) None command db) o (Ok (w.tally, new.now))) there found) in
      let now = ap (λ (p : Tally × Database). p.1) (same_value (went (went done.2).2).2) in
      let given = went done.1 in
      let written = went given.2 in
      let trees : new.now.trees ≡ written.0 = ap (λ (d : Database). d.trees) now ∙ ap (λ (it : Written). it.trees) (same_value written.2) in
      let edit = edit_of db table (ids_of given.0) Given 1 given.0 in
      let made = one_step (with_tables tables s) Enforced db written.0 edit (updates_quietly (with_tables tables s) db table given.0 quiet) written.1 in
      let tally = ap (λ (p : Tally × Database). unwrap_or p.0.rows 0) (same_value (went (went done.2).2).2) in
      let counted : count ≡ length given.0 = w.counted ∙ tally ∙ ap (λ (it : Written). length it.rows) (same_value written.2) ∙ as_many (without_all (db t.tree) (ids_of given.0)) given.0 in
      (given.0, given.1, ap (λ (d : Database). d.schema) now, subst (Applies (with_tables tables s) Enforced db edit) (sym trees) made, counted)

  -- the columns of the new rows
  new_cells : (tests sets : List Term) (change : Row → Row) (params : Row) (rows tree_rows : List Row)
      → ((r : Row) → cast_all t.columns (eval_all sets (params ∷ r ∷ [])) ≡ change (drop 1 r))
      → IsPermutation (map (λ r. eval_all (new_rows sets) (params ∷ r ∷ [])) (filter (picks params tests) tree_rows)) rows
      → IsPermutation (map (λ r. change (drop 1 r)) (filter (picks params tests) tree_rows)) (contents (map (λ s. cast_row table (drop 1 s)) rows))
  new_cells tests sets change params rows tree_rows sets_to shown =
      let cells : List Row → List Row = map (λ s. drop 1 (cast_row table (drop 1 s))) in
      let before : map (λ r. drop 1 (cast_row table (drop 1 (eval_all (new_rows sets) (params ∷ r ∷ []))))) (filter (picks params tests) tree_rows) ≡ map (λ r. change (drop 1 r)) (filter (picks params tests) tree_rows) =
      (λ i. map (λ r. sets_to r i) (filter (picks params tests) tree_rows)) in
      subst₂ IsPermutation
      (map-map (λ s. drop 1 (cast_row table (drop 1 s))) (λ r. eval_all (new_rows sets) (params ∷ r ∷ [])) (filter (picks params tests) tree_rows) ∙ before)
      (sym (map-map (drop 1) (λ s. cast_row table (drop 1 s)) rows))
      (IsPermutation-map (λ s. drop 1 (cast_row table (drop 1 s))) _ _ shown)

  updated : (tests sets : List Term) (goes : Row → Bool) (change : Row → Row) (params : Row) (rows : List Row) (old next : Database) → old.schema ≡ with_tables tables s → next.schema ≡ with_tables tables s
      → ((r : Row) → picks params tests r ≡ goes (drop 1 r)) → ((r : Row) → cast_all t.columns (eval_all sets (params ∷ r ∷ [])) ≡ change (drop 1 r)) → IsTree (old.trees t.tree)
      → IsPermutation (map (λ r. eval_all (new_rows sets) (params ∷ r ∷ [])) (filter (picks params tests) (old.trees t.tree))) rows
      → Applies (with_tables tables s) Enforced old.trees (edit_of old.trees table (ids_of rows) Given 1 rows) next.trees
      → EditsAmong tables t.tree (map (changed_if goes change)) old next
  updated tests sets goes change params rows old next has keeps same sets_to sound shown made =
      let was : List Row = old.trees t.tree in
      let news : List Row = map (λ s. cast_row table (drop 1 s)) rows in
      let rest : List Row = filter (λ r. not (picks params tests r)) was in
      let left : without_all was (ids_of rows) ≡ rest = without_picked was sound (picks params tests) (ids_of rows) (shown_ids tests (col 1 0 ∷ sets) was rows params shown) in
      let numbers : numbered Given (without_all was (ids_of rows)) news ≡ news = given (without_all was (ids_of rows)) news in
      let now : next.trees t.tree ≡ put_all rest news = made.rows ∙ (λ i. put_all (left i) (numbers i)) in
      let keyed : have_rowids news ≡ true = ap have_rowids (sym numbers) ∙ made.keyed in
      let fresh : are_fresh rest news ≡ true = (λ i. are_fresh (sym left i) (sym numbers i)) ∙ made.fresh in
      let edited_to : map (λ r. cond (picks params tests r) (change (drop 1 r)) (drop 1 r)) was ≡ map (changed_if goes change) (contents was) =
      (λ i. map (λ r. cond (same r i) (change (drop 1 r)) (drop 1 r)) was) ∙ sym (map-map (changed_if goes change) (drop 1) was) in
      let parted : IsPermutation (map (changed_if goes change) (contents was)) (map (λ r. change (drop 1 r)) (filter (picks params tests) was) ++ contents rest) =
      subst (λ l. IsPermutation l (map (λ r. change (drop 1 r)) (filter (picks params tests) was) ++ contents rest)) edited_to (in_two (picks params tests) (λ r. change (drop 1 r)) (drop 1) was) in
      let put : IsPermutation (contents news ++ contents rest) (contents (put_all rest news)) =
      subst (λ l. IsPermutation l (contents (put_all rest news))) (map-append (drop 1) news rest) (IsPermutation-map (drop 1) _ _ (put_all_permutes news rest fresh)) in
      let all : IsPermutation (map (changed_if goes change) (contents was)) (contents (put_all rest news)) =
      IsPermutation-trans _ _ _ parted (IsPermutation-trans _ _ _ (IsPermutation-append_left (contents rest) _ _ (new_cells tests sets change params rows was sets_to shown)) put) in
      record {
        schema = keeps ∙ sym has;
        others = at_table (λ t. next.trees t ≡ old.trees t) t.tree tables made.tables;
        rows = subst (λ l. IsPermutation (map (changed_if goes change) (contents was)) (contents l)) (sym now) all;
        whole = λ sound. subst IsTree (sym now) (put_all_tree news rest keyed fresh (ascending-filter _ (λ r. not (picks params tests r)) _ sound.0, all-filter _ (λ r. not (picks params tests r)) _ sound.1));
      }

  pub changes_among : (tests sets : List Term) (goes : Row → Bool) (change : Row → Row) (old new : State) (text : List ℕ) (params : Row) (count : ℕ) → old.now.schema ≡ with_tables tables s
      → ((r : Row) → picks params tests r ≡ goes (drop 1 r)) → ((r : Row) → cast_all t.columns (eval_all sets (params ∷ r ∷ [])) ≡ change (drop 1 r)) → IsTree (old.now.trees t.tree) → any_acts_at Enforced false tables t.tree ≡ false
      → Writes old new None (Update at (update_of t tests sets)) text params count → EditsAmong tables t.tree (map (changed_if goes change)) old.now new.now
  changes_among tests sets goes change old new text params count has same sets_to sound quiet w =
      let it = applied_among tests sets old new text params count has quiet w in
      updated tests sets goes change params it.0 old.now new.now has it.2 same sets_to sound (permuted t.tree tests (new_rows sets) [] old.now.trees params it.0 (it.1.answer Null)) it.3

-- so among the tables of a desk
module _ (at : ℕ) (t : Table) (there : slice_get desk_tables at ≡ Some (as_strict t)) (s : Schema) where
  abbrev pub update : List Term → List Term → Program
  update = update_of t

  pub applied : (tests sets : List Term) (old new : State) (text : List ℕ) (params : Row) (count : ℕ) → old.now.schema ≡ desk_beside s
      → Writes old new None (Update at (update tests sets)) text params count
      → (rows : List Row) × Answers (record { schema = desk_beside s; trees = old.now.trees }) (update tests sets) params rows × (new.now.schema ≡ desk_beside s)
      × Applies (desk_beside s) Enforced old.now.trees (edit_of old.now.trees (as_strict t) (ids_of rows) Given 1 rows) new.now.trees × (count ≡ length rows)
  applied tests sets old new text params count has w = applied_among desk_tables at t there s tests sets old new text params count has refl w

  pub changes : (tests sets : List Term) (goes : Row → Bool) (change : Row → Row) (old new : State) (text : List ℕ) (params : Row) (count : ℕ) → old.now.schema ≡ desk_beside s
      → ((r : Row) → picks params tests r ≡ goes (drop 1 r)) → ((r : Row) → cast_all t.columns (eval_all sets (params ∷ r ∷ [])) ≡ change (drop 1 r)) → IsTree (old.now.trees t.tree)
      → Writes old new None (Update at (update tests sets)) text params count → Edits t.tree (map (changed_if goes change)) old.now new.now
  changes tests sets goes change old new text params count has same sets_to sound w = changes_among desk_tables at t there s tests sets goes change old new text params count has same sets_to sound refl w
