-- The tables of a desk while they are made, one after another.
use Rattle.std.specs.Prelude.{◌≡◌, ℕ, suc, true, List, [], IsTrue, take, nat_le, if◌then◌else◌}
use Rattle.std.specs.List.{AllByRecursion}
use Rattle.sqlite.specs.Effect.{IsDatabase}
use Rattle.sqlite.specs.State.{State}
use Rattle.sqlite_schema.specs.declared.schema.Index.{Index}
use Rattle.sqlite_schema.specs.declared.schema.Schema.{Schema}
use Rattle.sqlite_schema.specs.declared.schema.Table.{Table}
use Rattle.store_tables.specs.Tables.{desk_tables, desk_indexes}

-- The tables that the first statements make: each of the ten first makes one, and the eleventh the index of a holder's runs.
abbrev pub tables_so_far : ℕ → List Table
tables_so_far n = take n desk_tables

-- The indexes that they make: each statement makes one, except that the seventh and the tenth make two, since `auth`
-- and `entry` have two keys.
abbrev pub indexes_so_far : ℕ → List Index
indexes_so_far n = take (if nat_le n 6 then n else if nat_le n 9 then suc n else suc (suc n)) desk_indexes

-- the schema that they make
abbrev pub schema_so_far : ℕ → Schema
schema_so_far n = record { tables = tables_so_far n; indexes = indexes_so_far n; views = [] }

-- a transaction over this schema
pub record IsOver (over : Schema) (s : State) : Type 0 where
  pub inside : s.in_transaction ≡ true
  pub schema : IsTrue s.is_open → s.now.schema ≡ over

-- A transaction in which the first statements made tables, which have no row. The first of them makes the trees list
-- the schema and obey it.
pub record IsMadeTo (n : ℕ) (s : State) : Type 0 where
  pub inside : s.in_transaction ≡ true
  pub schema : s.now.schema ≡ schema_so_far n
  pub sound : IsTrue (nat_le 1 n) → IsDatabase s.now
  pub empty : AllByRecursion (λ t. s.now.trees t.tree ≡ []) (tables_so_far n)
