-- What holds of the tables of a desk.
use Rattle.std.specs.Prelude.{◌≡◌, true}
use Rattle.sqlite_schema.specs.declared.schema.Schema.{Schema}
use Rattle.store_tables.specs.Schemas.{has_names}
use Rattle.store_tables.specs.Tables.{desk_tables}

-- A schema that has the tables of a desk has their names and those of their columns, whatever is beside them.
abbrev pub DeskTablesAreNamed : Type 0
DeskTablesAreNamed = (schema : Schema) → schema.tables ≡ desk_tables → has_names schema desk_tables ≡ true
