-- What statements mean within a transaction, one and several in turn.
use Rattle.store_transactions.proofs.Vocabulary.{◌≡◌, inl, ℕ, Bool, true, false, ◌==◌, List, [], ◌∷◌, None, Some, refl, sym, ap, subst, ◌∙◌, length, ◌/◌, slice_get, ◌++◌, Result, OnOk, arith, ◌+◌, ◌<◌, take, get_or, eqb-true, eq-eqb, both_ways, Database, value_rows, understood, State, Runs, runs_as, statement_of, Null, Row, Command, desk_beside, IsTree, AreTrees, as_strict, desk_tables, IsReady, IsExecuted, state_in, OnCleanDisk, IfDone, StaysInside, Means, beside, Table, PutsRows, on_ok_weaker, take_more, keeps_then, survives_then, Transaction, Ghosts}
use Rattle.sqlite_schema.specs.declared.schema.Schema.{Schema}
use Rattle.store_tables.specs.steps.Edits.{Edits}
use Rattle.sqlite_sql.specs.Term.{Term}
use Rattle.sqlite_schema.specs.declared.command.Command.TheVariants.{Insert}
use Rattle.sqlite_schema.specs.declared.command.Source.TheVariants.{Values}
use Rattle.sqlite_rules.specs.Cast.{cast_all}
use Rattle.store_tables.proofs.Inserting as inserting

module _ {sql : List ℕ} (params : Row) {command : Command} (means : Means sql command) {old new : State} (ready : IsReady old) (ran : IsExecuted sql params old new) where
  pub has_schema : old.now.schema ≡ desk_beside old.now.schema
  has_schema = beside old.now.schema (ready.tables ran.1.1.was_open)

  pub wrote : Runs old new None command (statement_of sql (understood (desk_beside old.now.schema) sql)) params ran.0
  wrote = runs_as sql params old new (desk_beside old.now.schema) has_schema command (means.is old.now.schema) (means.plain old.now.schema) ran.0 ran.1.0

  pub ready_still : new.now.schema ≡ desk_beside old.now.schema → IsReady new
  ready_still keeps = record { tables = λ _. ap (λ (s : Schema). s.tables) keeps; inside = ran.1.1.mode }

-- every other table stays sound
pub sound_still : (tree : ℕ) (by : List Row → List Row) (old new : Database) → Edits tree by old new → AreTrees old.trees → AreTrees new.trees
sound_still tree by old new e sound t is = go (t == tree) refl
  where
    go : (b : Bool) → (t == tree) ≡ b → IsTree (new.trees t)
    go true same = let it : t ≡ tree = eqb-true _ _ same in subst (λ k. IsTree (new.trees k)) (sym it) (e.whole (subst (λ k. IsTree (old.trees k)) it (sound t is)))
    go false other = subst IsTree (sym (e.others t is (λ it. both_ways _ other (rw it (eq-eqb tree tree refl))))) (sound t is)

module _ (at : ℕ) (t : Table) (there : slice_get desk_tables at ≡ Some (as_strict t)) (old new : State) where
  pub puts_row : {sql : List ℕ} (params : Row) (terms : List Term) (width : ℕ) (row : Row) → Means sql (Insert at (Values terms width))
      → value_rows params width (length terms / width) terms ≡ (Null ∷ row) ∷ [] → cast_all t.columns row ≡ row
      → IsReady old → IsExecuted sql params old new → PutsRows t.tree (row ∷ []) old new
  puts_row params terms width row means values typed ready ran =
      let has = has_schema params means ready ran in
      let w = wrote params means ready ran in
      let e = inserting.puts at t there old.now.schema terms width row old new _ params ran.0 has values typed w in
      record { ready = ready_still params means ready ran (e.schema ∙ has); sound = λ _. w.sound; edits = e }

-- ---- statements in turn

pub taken_more : {X : Type 0} (xs : List X) (i : ℕ) (x : X) → i < length xs → x ≡ get_or xs i x → take (i + 1) xs ≡ take i xs ++ x ∷ []
taken_more xs i x low is = take_more xs i x low ∙ ap (λ y. take i xs ++ y ∷ []) (sym is)

module _ {S : Type 0} (g : Ghosts S) where
  pub stays : (a : Transaction S) → StaysInside g a a
  stays a = record { same_reference = refl; kept = λ clean. record { was_open = λ opened. opened; committed = λ opened. refl }; survives = record { clean = omega arith; shield = λ shielded. shielded; counts = omega arith; limit = refl; closes = λ clean opened. inl opened; crash = λ clean db left. inl left } }

  pub stays_then : (a b c : Transaction S) → StaysInside g a b → StaysInside g b c → StaysInside g a c
  stays_then a b c first second = record {
    same_reference = second.same_reference ∙ first.same_reference;
    kept = λ clean. keeps_then (state_in g a) (state_in g b) (state_in g c) (first.kept (omega (arith, second.survives.clean))) (second.kept clean);
    survives = survives_then (state_in g a) (state_in g b) (state_in g c) (λ _. ⊥) (λ _. ⊥) (λ _. ⊥) (λ _ db none. none) (λ _ db none. none) first.survives second.survives;
  }

  -- what a statement means of the rows
  pub means : {X E : Type 0} (r : Result X E) (sql : List ℕ) (given params : Row) (so : State → State → Type 0) (old new : Transaction S) → OnCleanDisk g IsReady old → StaysInside g old new
      → IfDone g r (IsExecuted sql given) old new → given ≡ params → ((a b : State) → IsReady a → IsExecuted sql params a b → so a b) → IfDone g r so old new
  means r sql given params so old new ready stay ran same to clean =
      on_ok_weaker r (to (state_in g old) (state_in g new) (ready (omega (arith, stay.survives.clean)))) (subst (λ p. OnOk r (IsExecuted sql p (state_in g old) (state_in g new))) same (ran clean))
