-- What single statements do that make the tables or widen them, and put their first rows.
use Rattle.std.specs.Prelude.{◌≡◌, true, []}
use Rattle.sqlite.specs.Effect.{IsDatabase}
use Rattle.sqlite_catalog.specs.Change.{KeepsRows}
use Rattle.sqlite.specs.State.{State}
use Rattle.sqlite_schema.specs.declared.schema.Schema.{Schema}
use Rattle.sqlite_schema.specs.declared.schema.Table.{Table}
use Rattle.registry.specs.CharterSets.{CharterSets}
use Rattle.registry.specs.RowsOfAll.{blank_rows}
use Rattle.store_tables.specs.Tables.{claim, entry, desk_schema}
use Rattle.store_tables.specs.TablesHold.{TablesHold}
use Rattle.store_schema.specs.OldTables.{old_tables, old_schema_without_index}
use Rattle.store_schema.specs.Making.{schema_so_far, IsOver}

-- The transaction goes on over another schema, and the tables keep their rows. The trees list the schema and obey it.
pub record Redefines (before after : Schema) (old new : State) : Type 0 where
  pub inside : new.in_transaction ≡ true
  pub schema : new.now.schema ≡ after
  pub sound : IsDatabase new.now
  pub rows : KeepsRows before.tables old.now.trees new.now.trees

-- one table more, which has no row
pub record MakesTable (table : Table) (before after : Schema) (old new : State) : Type 0 where
  pub redefines : Redefines before after old new
  pub empty : new.now.trees table.tree ≡ []

-- the tables `claim` and `entry` after the eight before them
pub record MakesClaimTables (old new : State) : Type 0 where
  pub redefines : Redefines (schema_so_far 8) (schema_so_far 10) old new
  pub no_claims : new.now.trees claim.tree ≡ []
  pub no_entries : new.now.trees entry.tree ≡ []

-- the index is not there, and the tables of schema 1 keep their rows
pub record DropsIndex (old new : State) : Type 0 where
  pub over : IsOver old_schema_without_index new
  pub rows : KeepsRows old_tables old.now.trees new.now.trees

-- a transaction in which the tables hold the charter and blank rows
pub record HasCharter (charter : CharterSets) (s : State) : Type 0 where
  pub inside : s.in_transaction ≡ true
  pub schema : s.now.schema ≡ desk_schema
  pub sound : IsDatabase s.now
  pub rows : TablesHold charter blank_rows s.now.trees
