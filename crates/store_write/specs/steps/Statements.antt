-- What a statement within a transaction does to the rows of a holder, or to the exceptions.
use Rattle.std.specs.Prelude.{◌≡◌, ◌≤◌, ◌+◌, ℕ, Bool, List, [], length, map, IsTrue, Option, Some, None, option_map, is_some, IsSome, Result, Ok, if◌then◌else◌}
use Rattle.sqlite.specs.declared.transaction.Transaction.{Transaction}
use Rattle.sqlite.specs.Effect.{Database, IsDatabase}
use Rattle.sqlite.specs.State.{State, ExecutesInside}
use Rattle.sqlite.specs.Store.{Ghosts}
use Rattle.sqlite_trees.specs.Tree.{Trees}
use Rattle.sqlite_value.specs.Order.{Row}
use Rattle.registry.specs.CharterSets.{CharterSets}
use Rattle.registry.specs.History.{same_name}
use Rattle.registry.specs.Rows.{Rows, new_rows}
use Rattle.registry.specs.RowsOfAll.{AllRows}
use Rattle.slurm.specs.declared.exceptions.TheConstants.{MOST_ENTRIES}
use Rattle.slurm.specs.declared.set.NamedSlurm.{NamedSlurm}
use Rattle.store_write.specs.Changes.{RowChange}
use Rattle.store_tables.specs.Cells.{exception_row}
use Rattle.store_tables.specs.Tables.{slurm, IsTree}
use Rattle.store_tables.specs.declared.exception.Exception.{Exception}
use Rattle.store_tables.specs.steps.Edits.{Edits}
use Rattle.store_tables.specs.TablesHold.{TablesHold, at_positions}
use Rattle.store_transactions.specs.Statements.{IfDone, IsReady}

-- the rows of every holder turned; the exceptions stay
abbrev pub each_holder : (List ℕ → Option Rows → Option Rows) → RowChange
each_holder to rows = record rows { of_holder = λ k. to k (rows.of_holder k) }

-- ---- the rows of one holder

-- those of one holder turned, and those of every other as they are
abbrev pub at_holder : List ℕ → (Option Rows → Option Rows) → RowChange
at_holder h to = each_holder (λ k rows. if same_name h k then to rows else rows)

-- the tables hold these rows, and the table of exceptions is as it was
pub record KeepsExceptions (charter : CharterSets) (rows : AllRows) (old new : Trees) : Type 0 where
  pub held : TablesHold charter rows new
  pub exceptions : new slurm.tree ≡ old slurm.tree

-- Where the holder is registered, its rows are edited, and those of every other holder stay, as the charter
-- and the exceptions do.
abbrev pub EditsRows : List ℕ → (Rows → Rows) → Database → Database → Type 0
EditsRows h edit old new =
    (charter : CharterSets) (rows : AllRows) → TablesHold charter rows old.trees → IsSome (rows.of_holder h)
    → KeepsExceptions charter (at_holder h (option_map edit) rows) old.trees new.trees

-- the statement was executed within the transaction, and changed so many rows
abbrev pub IsExecutedOn : List ℕ → Row → ℕ → State → State → Type 0
IsExecutedOn sql params count old new = ExecutesInside 0 sql params old new (Ok count)

-- the transaction goes on, the schema stays, and the rows of the holder are edited
pub record EditsHolder (h : List ℕ) (edit : Rows → Rows) (old new : State) : Type 0 where
  pub ready : IsReady new
  pub schema : new.now.schema ≡ old.now.schema
  pub sound : IsDatabase old.now → IsDatabase new.now
  pub rows : EditsRows h edit old.now new.now

abbrev pub IfEdited : {S X E : Type 0} (g : Ghosts S) → Result X E → List ℕ → (Rows → Rows)
    → Transaction S → Transaction S → Type 0
IfEdited g result h edit = IfDone g result (EditsHolder h edit)

-- the answer is whether the holder is registered, and nothing changes
pub record AnswersWhetherRegistered (h : List ℕ) (is_there : Bool) (old new : State) : Type 0 where
  pub was_open : IsTrue old.is_open
  pub ready : IsReady new
  pub same : new.now ≡ old.now
  pub answer :
      (charter : CharterSets) (rows : AllRows) → TablesHold charter rows old.now.trees
      → is_there ≡ is_some (rows.of_holder h)

-- the transaction goes on, the schema stays, and the holder is registered, if it was not
pub record Registers (h : List ℕ) (old new : State) : Type 0 where
  pub ready : IsReady new
  pub schema : new.now.schema ≡ old.now.schema
  pub sound : IsDatabase old.now → IsDatabase new.now
  pub rows :
      (charter : CharterSets) (rows : AllRows) → TablesHold charter rows old.now.trees
      → rows.of_holder h ≡ None → KeepsExceptions charter (at_holder h (λ _. Some new_rows) rows) old.now.trees new.now.trees

-- ---- the exceptions

-- the transaction goes on, the schema stays, and every row of a table that has rowids is deleted
pub record TakesRows (tree : ℕ) (old new : State) : Type 0 where
  pub was_open : IsTrue old.is_open
  pub ready : IsReady new
  pub schema : new.now.schema ≡ old.now.schema
  pub sound : IsDatabase old.now → IsDatabase new.now
  pub edits : IsTree (old.now.trees tree) → Edits tree (λ _. []) old.now new.now

-- the rows of a file's exceptions of one kind, at the positions from 1 up
abbrev pub entry_rows : {X : Type 0} → List ℕ → (X → Exception) → List X → List Row
entry_rows name of_kind xs = map exception_row (at_positions name (map of_kind xs))

-- the file has no more entries than one may have
abbrev pub IsBounded : NamedSlurm → Type 0
IsBounded f = length f.file.filters + length f.file.assertions ≤ MOST_ENTRIES

-- ---- all rows

-- the tables hold the rows turned so, if they held those before, and the table of exceptions is as it was
abbrev pub HoldersBecome : RowChange → Database → Database → Type 0
HoldersBecome to old new =
    (charter : CharterSets) (rows : AllRows) → TablesHold charter rows old.trees
    → KeepsExceptions charter (to rows) old.trees new.trees
