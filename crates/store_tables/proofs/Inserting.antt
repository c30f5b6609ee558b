-- What INSERT of one row does, whatever the table.
use Rattle.store_tables.proofs.Vocabulary.{◌≡◌, ◌≢◌, ◌⊎◌, inl, inr, ℕ, ◌/◌, ◌==◌, Bool, true, false, cond, ◌||◌, List, [], ◌∷◌, ◌++◌, drop, length, slice_get, Some, None, Ok, Err, Result, refl, sym, ap, not, subst, ◌∙◌, append-nil, IsPermutation, AllByRecursion, list_any, IsPermutation-map, and_parts, not-true, eqb-true, Tally, Does, AtPlace, OnRows, Database, value_rows, IsSource, Written, State, mode_of, Writes, one_step, Value, Null, Int, Row, Trees, put_row, Term, Enforced, Integer, Schema, Table, Insert, Values, Chosen, cast, cast_all, cast_row, Applies, edit_of, next_rowid, is_taken, numbered, put_all, are_fresh, no_works, as_strict, with_tables, desk_beside, desk_tables, contents, IsTree, EditsAmong, Edits}
use Rattle.sqlite_sql.specs.Ops.{unary}
use Rattle.sqlite_schema.specs.declared.command.Source.{Source}
use Rattle.store_tables.proofs.TreeRows.{put_permutes, put_tree}

-- a part that gave a value did not stop on the way
pub went : {B E R : Type 0} {b : B} {Stops : E → Type 0} → ((stop : E) × Stops stop × (Ok b ≡ Err stop)) ⊎ R → R
went (inl stopped) = absurd (let e = stopped.2 in cc)
went (inr on) = on

pub same_value : {B E : Type 0} {a b : B} → ◌≡◌ {A = Result B E} (Ok a) (Ok b) → a ≡ b
same_value e = cc

pub either : (b : Bool) (x : Value) → cond b x x ≡ x
either true x = refl
either false x = refl

pub cast_null : cast Integer Null ≡ Null
unfolding unary
cast_null = either _ Null

-- each table of the list
pub each_table : (P : ℕ → Type 0) (tables : List Table) → AllByRecursion (λ t. P t.tree) tables → (t : ℕ) → list_any (λ table. table.tree == t) tables ≡ true → P t
each_table P [] all t is = absurd cc
each_table P (x ∷ tables) all t is = go (x.tree == t) refl is (λ later. each_table P tables all.1 t later)
  where
    go : (b : Bool) → (x.tree == t) ≡ b → (b || list_any (λ table. table.tree == t) tables) ≡ true → (list_any (λ table. table.tree == t) tables ≡ true → P t) → P t
    go true here is later = subst P (eqb-true _ _ here) all.0
    go false there is later = later is

-- each table but one
pub at_table : (P : ℕ → Type 0) (tree : ℕ) (tables : List Table) → AllByRecursion (λ t. t.tree ≢ tree → P t.tree) tables → (t : ℕ) → list_any (λ table. table.tree == t) tables ≡ true → t ≢ tree → P t
at_table P tree = each_table (λ t. t ≢ tree → P t)

module _ (tables : List Table) (at : ℕ) (t : Table) (there : slice_get tables at ≡ Some (as_strict t)) (s : Schema) where
  abbrev table : Table
  table = as_strict t

  -- a source of one row is put under a rowid that was free
  placed : (db next : Trees) (cells : Row) → cast_row table (Null ∷ cells) ≡ Null ∷ cells → Applies (with_tables tables s) Enforced db (edit_of db table [] Chosen 0 ((Null ∷ cells) ∷ [])) next
      → (next t.tree ≡ put_row (Int (next_rowid (db t.tree)) ∷ cells) (db t.tree)) × (is_taken (db t.tree) (Int (next_rowid (db t.tree)) ∷ cells) ≡ false)
  placed db next cells typed made =
      let news : numbered Chosen (db t.tree) (cast_row table (Null ∷ cells) ∷ []) ≡ (Int (next_rowid (db t.tree)) ∷ cells) ∷ [] = ap (λ r. numbered Chosen (db t.tree) (r ∷ [])) typed in
      (made.rows ∙ ap (put_all (db t.tree)) news, not-true _ (and_parts (not (is_taken (db t.tree) (Int (next_rowid (db t.tree)) ∷ cells))) true (ap (are_fresh (db t.tree)) (sym news) ∙ made.fresh)).0)

  inserted : (old next : Database) (cells : Row) → old.schema ≡ with_tables tables s → cast_row table (Null ∷ cells) ≡ Null ∷ cells → next.schema ≡ with_tables tables s
      → Applies (with_tables tables s) Enforced old.trees (edit_of old.trees table [] Chosen 0 ((Null ∷ cells) ∷ [])) next.trees → EditsAmong tables t.tree (λ rows. cells ∷ rows) old next
  inserted old next cells has typed keeps made =
      let put = placed old.trees next.trees cells typed made in
      let new : Row = Int (next_rowid (old.trees t.tree)) ∷ cells in
      record {
        schema = keeps ∙ sym has;
        others = at_table (λ t. next.trees t ≡ old.trees t) t.tree tables made.tables;
        rows = subst (λ rows. IsPermutation (cells ∷ contents (old.trees t.tree)) (contents rows)) (sym put.0) (IsPermutation-map (drop 1) _ _ (put_permutes new (old.trees t.tree) put.1));
        whole = λ sound. subst IsTree (sym put.0) (put_tree new (old.trees t.tree) refl put.1 sound);
      }

  pub applied : (from : Source) (old new : State) (text : List ℕ) (params : Row) (count : ℕ) → old.now.schema ≡ with_tables tables s
      → Writes old new None (Insert at from) text params count
      → (rows : List Row) × IsSource (record { schema = with_tables tables s; trees = old.now.trees }) (params ++ []) from rows × (new.now.schema ≡ with_tables tables s)
      × Applies (with_tables tables s) Enforced old.now.trees (edit_of old.now.trees table [] Chosen 0 rows) new.now.trees
  applied from old new text params count has w =
      let db = old.now.trees in
      let found = subst (λ k. Does old.step_limit (mode_of old) params (record old.now { schema = k }) text None (Insert at from) (Ok (w.tally, new.now))) has w.changed in
      let done = went (subst (λ o. AtPlace (λ t. OnRows (record { limit = old.step_limit; keys = Enforced; schema = with_tables tables s; table = t; params = params }) (mode_of old) None (Insert at from) db) o (Ok (w.tally, new.now))) there found) in
      let now = ap (λ (p : Tally × Database). p.1) (same_value (went (went done.2).2).2) in
      let given = went done.1 in
      let written = went (went given.2).2 in
      let counted = went written.2 in
      let trees : new.now.trees ≡ written.0 = ap (λ (d : Database). d.trees) now ∙ ap (λ (it : Written). it.trees) (same_value counted.2) ∙ same_value counted.1 in
      let edit = edit_of db table [] Chosen 0 given.0 in
      let made = one_step (with_tables tables s) Enforced db written.0 edit (no_works (with_tables tables s) Enforced 0 t.tree edit.news) written.1 in
      (given.0, given.1, ap (λ (d : Database). d.schema) now, subst (Applies (with_tables tables s) Enforced db edit) (sym trees) made)

  pub puts_among : (terms : List Term) (width : ℕ) (cells : Row) (old new : State) (text : List ℕ) (params : Row) (count : ℕ) → old.now.schema ≡ with_tables tables s
      → value_rows params width (length terms / width) terms ≡ (Null ∷ cells) ∷ [] → cast_all t.columns cells ≡ cells
      → Writes old new None (Insert at (Values terms width)) text params count → EditsAmong tables t.tree (λ rows. cells ∷ rows) old.now new.now
  puts_among terms width cells old new text params count has values typed w =
      let it = applied (Values terms width) old new text params count has w in
      let rows : it.0 ≡ (Null ∷ cells) ∷ [] = it.1.1 ∙ ap (λ p. value_rows p width (length terms / width) terms) (append-nil params) ∙ values in
      let cast_to : cast_row table (Null ∷ cells) ≡ Null ∷ cells = (λ i. cast_null i ∷ typed i) in
      inserted old.now new.now cells has cast_to it.2 (subst (λ all. Applies (with_tables tables s) Enforced old.now.trees (edit_of old.now.trees table [] Chosen 0 all) new.now.trees) rows it.3)

-- so among the tables of a desk
module _ (at : ℕ) (t : Table) (there : slice_get desk_tables at ≡ Some (as_strict t)) (s : Schema) where
  pub puts : (terms : List Term) (width : ℕ) (cells : Row) (old new : State) (text : List ℕ) (params : Row) (count : ℕ) → old.now.schema ≡ desk_beside s
      → value_rows params width (length terms / width) terms ≡ (Null ∷ cells) ∷ [] → cast_all t.columns cells ≡ cells
      → Writes old new None (Insert at (Values terms width)) text params count → Edits t.tree (λ rows. cells ∷ rows) old.now new.now
  puts = puts_among desk_tables at t there s
