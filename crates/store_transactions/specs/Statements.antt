-- What a statement within a transaction leaves, and what a transaction leaves.
use Rattle.std.specs.Prelude.{◌≡◌, ℕ, true, List, IsTrue, Result, Ok, IfOk, OnOk, OnErr}
use Rattle.sqlite.specs.declared.transaction.Transaction.{Transaction}
use Rattle.sqlite.specs.Held.{Held, state}
use Rattle.sqlite.specs.State.{State, HasCleanDisk, KeepsCommit, Survives, ExecutesInside}
use Rattle.sqlite.specs.Store.{Ghosts}
use Rattle.sqlite_value.specs.Order.{Row}
use Rattle.sqlite_trees.specs.Tree.{Trees}
use Rattle.store_tables.specs.Tables.{desk_tables}

-- what the connection of a transaction shows
abbrev pub state_in : {S : Type 0} (g : Ghosts S) → Transaction S → State
state_in g tx = state g tx.conn.now

-- this holds for the state, unless the disk returned what was not written
abbrev pub OnCleanDisk : {S : Type 0} (g : Ghosts S) → (State → Type 0) → Transaction S → Type 0
OnCleanDisk g so tx = HasCleanDisk (state_in g tx) → so (state_in g tx)

-- if the statement succeeds, it does this, unless the disk returned what was not written
abbrev pub IfDone : {S X E : Type 0} (g : Ghosts S) → Result X E → (State → State → Type 0)
    → Transaction S → Transaction S → Type 0
IfDone g result so old new = HasCleanDisk (state_in g new) → OnOk result (so (state_in g old) (state_in g new))

abbrev pub IfAnswered : {S X E : Type 0} (g : Ghosts S) → Result X E → (X → State → State → Type 0)
    → Transaction S → Transaction S → Type 0
IfAnswered g result so old new =
    HasCleanDisk (state_in g new) → IfOk result (λ x. so x (state_in g old) (state_in g new))

-- What every statement leaves, whether it succeeds or not: its transaction has the same connection,
-- nothing is committed, and a crash leaves what it left before.
pub record StaysInside {S : Type 0} (g : Ghosts S) (old new : Transaction S) : Type 0 where
  pub same_reference : new.conn.ghost_name ≡ old.conn.ghost_name
  pub kept : HasCleanDisk (state_in g new) → KeepsCommit (state_in g old) (state_in g new)
  pub survives : Survives (state_in g old) (state_in g new) (λ _. ⊥)

-- the statement was executed within the transaction
abbrev pub IsExecuted : List ℕ → Row → State → State → Type 0
IsExecuted sql params old new = (count : ℕ) × ExecutesInside 0 sql params old new (Ok count)

-- a transaction over the tables of a desk
pub record IsReady (s : State) : Type 0 where
  pub tables : IsTrue s.is_open → s.now.schema.tables ≡ desk_tables
  pub inside : s.in_transaction ≡ true

-- ---- a transaction as a whole

-- nothing was committed, and what is shown is as it was
abbrev pub IsAsBefore : State → State → Type 0
IsAsBefore old new = IsTrue old.is_open × (new.now ≡ old.now) × (new.committed ≡ old.committed)

-- if it succeeds, it does this, unless the disk returned what was not written
abbrev pub IfCommitted : {S X E : Type 0} (g : Ghosts S) → Result X E → (State → State → Type 0)
    → Held S → Held S → Type 0
IfCommitted g result so old new = HasCleanDisk (state g new) → OnOk result (so (state g old) (state g new))

-- if it fails, all is as before, as long as the connection is open
abbrev pub IfRolledBack : {S X E : Type 0} (g : Ghosts S) → Result X E → Held S → Held S → Type 0
IfRolledBack g result old new =
    HasCleanDisk (state g new) → IsTrue (state g new).is_open
    → OnErr result (IsAsBefore (state g old) (state g new))

-- it commits such trees at most
abbrev pub CommitsAtMost : {S : Type 0} (g : Ghosts S) → (State → Trees → Type 0) → Held S → Held S → Type 0
CommitsAtMost g commits old new = Survives (state g old) (state g new) (commits (state g old))
