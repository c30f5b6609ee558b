-- What a function does that executes one statement, and what is done by several in turn.
use Rattle.store_write.proofs.Vocabulary.{◌≡◌, ℕ, List, Result, arith, means, stays_then, HasCleanDisk, State, Row, state_in, IsReady, IsExecuted, OnCleanDisk, StaysInside, IfDone}
use Rattle.sqlite.specs.declared.transaction.Transaction.{Transaction}
use Rattle.sqlite.specs.Store.{Ghosts}
use Rattle.sqlite.specs.Values.{bound}
use Rattle.sqlite_value.specs.declared.value.ValueRef.{ValueRef}

-- a function that executes the statement with these parameters does this
abbrev pub Does : List ℕ → Row → (State → State → Type 0) → Type 1
Does sql params so =
    (S X E : Type 0) (g : Ghosts S) (r : Result X E) (values : List ValueRef) (old new : Transaction S)
    → bound values ≡ params → OnCleanDisk g IsReady old → StaysInside g old new → IfDone g r (IsExecuted sql (bound values)) old new → IfDone g r so old new

pub does : (sql : List ℕ) (params : Row) (so : State → State → Type 0) → ((old new : State) → IsReady old → IsExecuted sql params old new → so old new) → Does sql params so
does sql params so to S X E g r values old new same ready stay ran = means g r sql (bound values) params so old new ready stay ran same to

module _ {S : Type 0} (g : Ghosts S) where
  -- the statements so far left what every statement leaves, and did this
  abbrev pub SoFar : (State → State → Type 0) → Transaction S → Transaction S → Type 0
  SoFar so a b = StaysInside g a b × (HasCleanDisk (state_in g b) → so (state_in g a) (state_in g b))

  -- what was done before a statement, and what that one does
  pub then_done : {A B C : Type 0} {b c : Transaction S} → StaysInside g b c → (A → B → C) → (HasCleanDisk (state_in g b) → A) → (HasCleanDisk (state_in g c) → B) → HasCleanDisk (state_in g c) → C
  then_done stay both before done clean = both (before (omega (arith, stay.survives.clean))) (done clean)

  -- one more step of a loop
  pub one_more : {A B C : Type 0} {a b c : Transaction S} → (A → B → C) → StaysInside g a b × (HasCleanDisk (state_in g b) → A) → StaysInside g b c → (HasCleanDisk (state_in g c) → B)
      → StaysInside g a c × (HasCleanDisk (state_in g c) → C)
  one_more both so_far stay done = (stays_then g _ _ _ so_far.0 stay, then_done stay both so_far.1 done)
