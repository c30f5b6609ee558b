-- How the schema of a database compares to that of a desk.
use Rattle.std.specs.Prelude.{◌≡◌, ℕ, Bool, false, ◌&&◌, ◌||◌, List, [], All, option_map, unwrap_or, is_some}
use Rattle.std.specs.List.{list_any, list_all}
use Rattle.sqlite_value.specs.declared.value.Value.TheVariants.{Null}
use Rattle.sqlite_schema.specs.Names.{same_name, column_named}
use Rattle.sqlite_schema.specs.declared.schema.Column.{Column}
use Rattle.sqlite_schema.specs.declared.schema.Schema.{Schema}
use Rattle.sqlite_schema.specs.declared.schema.Table.{Table}
use Rattle.sqlite_schema.specs.declared.schema.View.{View}

-- NULL is the default where none is stated
abbrev pub HasNoDefault : Column → Type 0
HasNoDefault c = c.default ≡ Null

-- a table without a CHECK and without a DEFAULT
pub record IsPlain (t : Table) : Type 0 where
  pub columns : All HasNoDefault t.columns
  pub checks : t.checks ≡ []
  pub stamps : t.stamps.terms ≡ []

abbrev pub HasPlainTables : Schema → Type 0
HasPlainTables schema = All IsPlain schema.tables

abbrev pub IsPlainSchema : Schema → Type 0
IsPlainSchema schema = HasPlainTables schema × (schema.views ≡ [])

-- ---- names, which SQLite compares without regard to the case of ASCII letters

abbrev pub has_columns : Table → List Column → Bool
has_columns table columns = list_all (λ c. is_some (column_named table c.name)) columns

-- a table of this table's name, with its columns, is among these
abbrev pub is_table_among : Table → List Table → Bool
is_table_among table tables =
    list_any (λ found. same_name found.name table.name && has_columns found table.columns) tables

-- it belongs to a table of this name that SQL here does not reach
abbrev pub is_of_table : List ℕ → View → Bool
is_of_table name view = unwrap_or (option_map (λ owner. same_name owner name) view.foreign) false

-- a table of this name is there which SQL here does not reach, such as one with a trigger
abbrev pub is_out_of_reach : List ℕ → List View → Bool
is_out_of_reach name views = list_any (is_of_table name) views

-- The table is there, by its name and those of its columns. The columns of a table out of reach are
-- not known.
abbrev pub has_table : Schema → Table → Bool
has_table schema table = is_table_among table schema.tables || is_out_of_reach table.name schema.views

-- all of these tables are there
abbrev pub has_names : Schema → List Table → Bool
has_names schema tables = list_all (has_table schema) tables
