-- What a statement does to the rows of one table.
use Rattle.std.specs.Prelude.{◌≡◌, ◌≢◌, ℕ, ◌==◌, true, List, IsPermutation}
use Rattle.std.specs.List.{list_any}
use Rattle.sqlite.specs.Effect.{Database}
use Rattle.sqlite_value.specs.Order.{Row}
use Rattle.sqlite_schema.specs.declared.schema.Table.{Table}
use Rattle.store_tables.specs.Tables.{contents, desk_tables, IsTree}

-- the contents of one of these tables are edited, up to their order, and every other stays as it was
pub record EditsAmong (tables : List Table) (tree : ℕ) (edit : List Row → List Row) (old new : Database) : Type 0 where
  pub schema : new.schema ≡ old.schema
  pub others : (t : ℕ) → list_any (λ table. table.tree == t) tables ≡ true → t ≢ tree → new.trees t ≡ old.trees t
  pub rows : IsPermutation (edit (contents (old.trees tree))) (contents (new.trees tree))
  pub whole : IsTree (old.trees tree) → IsTree (new.trees tree)

-- the same for the tables of a desk
abbrev pub Edits : ℕ → (List Row → List Row) → Database → Database → Type 0
Edits = EditsAmong desk_tables
