-- What the tables of a database hold, whichever of the two schemas it is of.
use Rattle.std.specs.Prelude.{◌≡◌, ◌⊎◌, List}
use Rattle.sqlite_schema.specs.declared.schema.Table.{Table}
use Rattle.sqlite_trees.specs.Tree.{Trees}
use Rattle.registry.specs.CharterSets.{CharterSets}
use Rattle.registry.specs.RowsOfAll.{AllRows}
use Rattle.store_tables.specs.Tables.{desk_tables}
use Rattle.store_tables.specs.TablesHold.{TablesHold}
use Rattle.store_schema.specs.OldTables.{old_tables, OldTablesHold}

-- the tables are those of a desk, of this schema or of schema 1
abbrev pub AreOfEitherSchema : List Table → Type 0
AreOfEitherSchema tables = (tables ≡ desk_tables) ⊎ (tables ≡ old_tables)

-- the tables of the database, be they those of this schema or those of schema 1, hold this charter and these rows
abbrev pub EitherSchemaHolds : CharterSets → AllRows → Trees → Type 0
EitherSchemaHolds charter rows trees = TablesHold charter rows trees ⊎ OldTablesHold charter rows trees
