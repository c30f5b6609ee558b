-- What a statement on the table of one part does to the rows of a holder, whatever the part.
use Rattle.store_write.proofs.Vocabulary.{◌≡◌, ℕ, Bool, true, false, not, ◌==◌, List, [], ◌∷◌, map, filter, drop, slice_get, Some, sym, ◌∙◌, IsPermutation, State, Text, Row, column, IsPermutation-same, Term, eval_all, cast_all, Rows, EachHasEntries, as_strict, claim, desk_tables, is_table, Part, PutsRows, EditsHolder, changed_if, picks, names, put_local, take_local, change_local, has_schema, wrote, ready_still, Means}
use Rattle.sqlite_schema.specs.declared.command.Command.TheVariants.{Update, Delete}
use Rattle.sqlite_schema.specs.declared.schema.Schema.{Schema}
use Rattle.sqlite_schema.specs.declared.schema.Table.{Table}
use Rattle.store_tables.proofs.Deleting as deleting
use Rattle.store_tables.proofs.Updating as updating
use Rattle.store_write.proofs.InTurn.{Does, does}
use Rattle.store_write.proofs.StepLemmas.{is_part_tree, AllEdited, edits_rows}

module _ (at : ℕ) (t : Table) (there : slice_get desk_tables at ≡ Some (as_strict t)) where
  module _ (place : ℕ) (rows : List ℕ → Rows → List Row) (parted : is_part_tree t.tree ≡ true) (h : List ℕ) (edit : Rows → Rows)
      (entries_stay : (r : Rows) → EachHasEntries r.auths → EachHasEntries (edit r).auths) where
    abbrev part : Part
    part = record { tree = t.tree; place = place; rows = rows }

    pub puts_edit : (row : Row) → column row place ≡ Text h → ((r : Rows) → IsPermutation (rows h (edit r)) (row ∷ rows h r))
        → AllEdited h edit part → (old new : State) → PutsRows t.tree (row ∷ []) old new → EditsHolder h edit old new
    puts_edit row named put parts old new puts =
        record {
          ready = puts.ready;
          schema = puts.edits.schema;
          sound = puts.sound;
          rows = edits_rows h edit part (λ rows. row ∷ rows) old.now new.now puts.edits (put_local place h row named) put parted parts entries_stay;
        }

    module _ (tests : List Term) (goes : Row → Bool) (params : Row) (same : (r : Row) → picks params tests r ≡ goes (drop 1 r)) (own : (c : Row) → goes c ≡ true → names place h c ≡ true) where
      pub takes_edit : {sql : List ℕ} → Means sql (Delete at (deleting.deletion_of t tests)) → ((r : Rows) → rows h (edit r) ≡ filter (λ c. not (goes c)) (rows h r))
          → AllEdited h edit part → is_table t.tree ≡ true → (claim.tree == t.tree) ≡ false → Does sql params (EditsHolder h edit)
      takes_edit means taken parts is other = does _ _ (EditsHolder h edit) (λ old new ready ran.
          let has = has_schema params means ready ran in
          let w = wrote params means ready ran in
          record {
            ready = ready_still params means ready ran (deleting.applied at t there other old.now.schema tests old new _ params ran.0 has w).2;
            schema = (deleting.applied at t there other old.now.schema tests old new _ params ran.0 has w).2 ∙ sym has;
            sound = λ _. w.sound;
            rows = λ charter held was some.
                edits_rows h edit part (filter (λ c. not (goes c))) old.now new.now (deleting.takes at t there other old.now.schema tests goes old new _ params ran.0 has same (was.whole t.tree is) w)
                (take_local place h goes own) (λ r. IsPermutation-same _ _ (taken r)) parted parts entries_stay charter held was some;
          })

      pub changes_edit : {sql : List ℕ} (sets : List Term) (change : Row → Row) → ((schema : Schema) → Means sql (Update at (updating.update at t there schema tests sets)))
          → ((r : Row) → cast_all t.columns (eval_all sets (params ∷ r ∷ [])) ≡ change (drop 1 r)) → ((c : Row) → goes c ≡ true → column (change c) place ≡ column c place)
          → ((r : Rows) → rows h (edit r) ≡ map (changed_if goes change) (rows h r))
          → AllEdited h edit part → is_table t.tree ≡ true → Does sql params (EditsHolder h edit)
      changes_edit sets change means sets_to keeps changed parts is = does _ _ (EditsHolder h edit) (λ old new ready ran.
          let has = has_schema params (means old.now.schema) ready ran in
          let w = wrote params (means old.now.schema) ready ran in
          record {
            ready = ready_still params (means old.now.schema) ready ran (updating.applied at t there old.now.schema tests sets old new _ params ran.0 has w).2;
            schema = (updating.applied at t there old.now.schema tests sets old new _ params ran.0 has w).2 ∙ sym has;
            sound = λ _. w.sound;
            rows = λ charter held was some.
                edits_rows h edit part (map (changed_if goes change)) old.now new.now (updating.changes at t there old.now.schema tests sets goes change old new _ params ran.0 has same sets_to (was.whole t.tree is) w)
                (change_local place h goes own change keeps) (λ r. IsPermutation-same _ _ (changed r)) parted parts entries_stay charter held was some;
          })
