-- The opening of a database that has the tables of a desk, or those of schema 1.
use Rattle.std.specs.Prelude.{◌≡◌, ◌⊎◌, Bool, true, false, ◌||◌, List, IsTrue}
use Rattle.std.specs.List.{list_any}
use Rattle.sqlite.specs.Effect.{Database}
use Rattle.sqlite.specs.State.{State}
use Rattle.sqlite_schema.specs.Names.{same_name}
use Rattle.sqlite_schema.specs.declared.schema.Schema.{Schema}
use Rattle.sqlite_schema.specs.declared.schema.Table.{Table}
use Rattle.sqlite_trees.specs.Tree.{Trees}
use Rattle.registry.specs.CharterSets.{CharterSets}
use Rattle.registry.specs.RowsOfAll.{AllRows}
use Rattle.store_tables.specs.Tables.{claim, entry, desk_tables, SameRows}
use Rattle.store_tables.specs.Schemas.{has_names}
use Rattle.store_tables.specs.TablesHold.{TablesHold}
use Rattle.store_schema.specs.EitherSchema.{AreOfEitherSchema, EitherSchemaHolds}
use Rattle.store_schema.specs.OldTables.{old_tables, HasOldNumber, IsOldSchema}
use Rattle.store_transactions.specs.Databases.{IsDesk, IsDeskTrees}
use Rattle.store_open.specs.OldTablesRead.{OldTablesRead}
use Rattle.store_open.specs.TablesRead.{TablesRead, HoldSomeRows}

-- no table, index or view was made or dropped, and no row
pub record IsLeftAlone (old new : State) : Type 0 where
  pub schema : new.now.schema ≡ old.now.schema
  pub rows : SameRows old.now.trees new.now.trees

-- The database has the tables of a desk, or had those of schema 1, and now is a desk. Its tables hold the charter and
-- some rows, each row in the range of its type, and whatever the tables held before, in either schema. A desk of this
-- schema is left alone; tables of schema 1 had its number.
pub record OpensDesk (charter : CharterSets) (old new : State) : Type 0 where
  pub idle : old.in_transaction ≡ false
  pub tables : AreOfEitherSchema old.now.schema.tables
  pub is_open : IsTrue new.is_open
  pub desk : IsDesk new
  pub some : HoldSomeRows charter new.now.trees
  pub reads : TablesRead new.now.trees
  pub kept :
      (held : CharterSets) (rows : AllRows)
      → EitherSchemaHolds held rows old.now.trees → TablesHold held rows new.now.trees
  pub unchanged : old.now.schema.tables ≡ desk_tables → IsLeftAlone old new
  pub numbered : old.now.schema.tables ≡ old_tables → HasOldNumber old.now.trees

-- The database had the tables of schema 1, and the trees are those of a desk, which hold whatever its tables held.
pub record AreMoved (old : State) (trees : Trees) : Type 0 where
  pub tables : old.now.schema.tables ≡ old_tables
  pub desk : IsDeskTrees trees
  pub kept :
      (held : CharterSets) (rows : AllRows)
      → EitherSchemaHolds held rows old.now.trees → TablesHold held rows trees

-- a crash leaves what it left before, or, of a database of schema 1, the trees of a desk with what its tables held
abbrev pub LeavesOldOrMoved : State → State → Type 0
LeavesOldOrMoved old new =
    (trees : Trees) → new.may_leave trees → old.may_leave trees ⊎ AreMoved old trees

-- a table has a name that schema 1 does not have: `claim` or `entry`
abbrev pub has_new_table : Schema → Bool
has_new_table schema =
    list_any (λ table. same_name table.name claim.name || same_name table.name entry.name) schema.tables

-- a name of these tables of schema 1 or of one of their columns is missing, or a new table is there
abbrev pub HasOtherNames : Schema → List Table → Type 0
HasOtherNames schema old = (has_names schema old ≡ false) ⊎ (has_new_table schema ≡ true)

-- by its names the schema is neither that of a desk nor schema 1
abbrev pub IsStrange : Schema → Type 0
IsStrange schema = (has_names schema desk_tables ≡ false) × HasOtherNames schema old_tables

-- A name of a table or a column of a desk is missing, and the names are not those of schema 1 either; or the tables of
-- either schema are there and do not read.
abbrev pub IsOfAnotherSchema : Database → Type 0
IsOfAnotherSchema db =
    IsStrange db.schema
    ⊎ ((db.schema.tables ≡ desk_tables) × ¬ TablesRead db.trees)
    ⊎ (IsOldSchema db.schema × ¬ OldTablesRead db.trees)
