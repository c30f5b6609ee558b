-- Databases that have the tables of a desk.
use Rattle.std.specs.Prelude.{◌≡◌, ◌⊎◌, false, IsTrue}
use Rattle.sqlite.specs.Effect.{IsDatabase}
use Rattle.sqlite.specs.Held.{Held, state}
use Rattle.sqlite.specs.State.{State, HasCleanDisk}
use Rattle.sqlite.specs.Store.{Ghosts}
use Rattle.sqlite_catalog.specs.Listing.{IsSound}
use Rattle.sqlite_schema.specs.declared.schema.Schema.{Schema}
use Rattle.sqlite_trees.specs.Tree.{Trees}
use Rattle.registry.specs.CharterSets.{CharterSets}
use Rattle.registry.specs.RowsOfAll.{blank_rows}
use Rattle.store_tables.specs.Tables.{blank_schema, desk_schema, desk_tables}
use Rattle.store_tables.specs.TablesHold.{TablesHold}

-- the database has the tables of a desk, unless the disk returned what was not written, or the
-- connection is shut
abbrev pub HasDeskTables : State → Type 0
HasDeskTables s = HasCleanDisk s → IsTrue s.is_open → s.now.schema.tables ≡ desk_tables

-- the database has the tables of a desk, and all that it shows is committed
pub record IsDesk (s : State) : Type 0 where
  pub tables : s.now.schema.tables ≡ desk_tables
  pub settled : s.committed ≡ s.now

abbrev pub IsDeskWhileOpen : State → Type 0
IsDeskWhileOpen s = HasCleanDisk s → IsTrue s.is_open → IsDesk s

-- the trees list a schema that has the tables of a desk, and obey it
pub record IsDeskTrees (trees : Trees) : Type 0 where
  pub schema : Schema
  pub tables : schema.tables ≡ desk_tables
  pub sound : IsSound schema trees

-- The disk returns what was written, whatever the connection does. Memory is such a one.
abbrev pub IsHonest : {S : Type 0} → Ghosts S → Type 0
IsHonest {S} g = (h : Held S) → HasCleanDisk (state g h)

-- ---- a new database

-- no transaction goes on, and the database has no table, index or view
pub record IsUnused (s : State) : Type 0 where
  pub idle : s.in_transaction ≡ false
  pub blank : s.now.schema ≡ blank_schema

-- the tables hold the charter and blank rows, and are committed
pub record IsNew (charter : CharterSets) (s : State) : Type 0 where
  pub is_open : IsTrue s.is_open
  pub schema : s.now.schema ≡ desk_schema
  pub sound : IsDatabase s.now
  pub settled : s.committed ≡ s.now
  pub rows : TablesHold charter blank_rows s.now.trees

-- a crash leaves the tables with the charter and blank rows
abbrev pub LeavesNew : CharterSets → State → Type 0
LeavesNew charter s =
    (trees : Trees) → s.may_leave trees → TablesHold charter blank_rows trees × IsDeskTrees trees

-- a crash leaves what it left before, or, of an unused database, the tables with the charter and blank rows
abbrev pub LeavesOldOrNew : CharterSets → State → State → Type 0
LeavesOldOrNew charter old new =
    (trees : Trees) → new.may_leave trees
    → old.may_leave trees ⊎ (IsUnused old × TablesHold charter blank_rows trees × IsDeskTrees trees)
