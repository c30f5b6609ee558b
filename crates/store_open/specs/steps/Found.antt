-- The schema of a database that is opened.
use Rattle.std.specs.Prelude.{◌≡◌, true, false}
use Rattle.sqlite_schema.specs.declared.schema.Schema.{Schema}
use Rattle.store_tables.specs.Tables.{desk_tables}
use Rattle.store_tables.specs.Schemas.{IsPlainSchema}
use Rattle.store_schema.specs.Moving.{old_schema_if}
use Rattle.store_open.specs.declared.found.Found.{Found}
use Rattle.store_open.specs.declared.found.Found.TheVariants.{Desk, Old}

-- it has the tables of a desk, or is that of schema 1, with the index of a holder's runs or without it
abbrev pub HasFound : Schema → Found → Type 0
HasFound schema Desk = schema.tables ≡ desk_tables
HasFound schema (Old has_index) = schema ≡ old_schema_if has_index

-- it is the other schema, and others are compared with it
abbrev pub IsSamePlain : Schema → Schema → Type 0
IsSamePlain schema other = IsPlainSchema schema × (schema ≡ other)

-- it is the one schema of schema 1, with the index of a holder's runs, or the other
abbrev pub IsFoundOf : Schema → Schema → Schema → Found → Type 0
IsFoundOf schema indexed bare Desk = ⊥
IsFoundOf schema indexed bare (Old true) = schema ≡ indexed
IsFoundOf schema indexed bare (Old false) = schema ≡ bare
