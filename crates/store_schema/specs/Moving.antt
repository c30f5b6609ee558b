-- The tables of schema 1 while their rows are moved, within a transaction.
use Rattle.std.specs.Prelude.{◌≡◌, true, Bool, if◌then◌else◌}
use Rattle.sqlite.specs.Effect.{IsDatabase}
use Rattle.sqlite.specs.State.{State}
use Rattle.sqlite_schema.specs.declared.schema.Schema.{Schema}
use Rattle.sqlite_trees.specs.Tree.{Trees}
use Rattle.store_schema.specs.Moved.{AreMovable, IsMoved, IsWidened}
use Rattle.store_schema.specs.OldTables.{old_schema, old_schema_without_index}
use Rattle.store_schema.specs.Making.{schema_so_far}

-- the schema of a desk of schema 1, with the index of a holder's runs or without it
abbrev pub old_schema_if : Bool → Schema
old_schema_if has_index = if has_index then old_schema else old_schema_without_index

-- the schema of a desk before its index is made
abbrev pub wide_schema : Schema
wide_schema = schema_so_far 10

-- a transaction over the schema of schema 1, with the index of a holder's runs or without it
pub record IsOverOld (has_index : Bool) (s : State) : Type 0 where
  pub inside : s.in_transaction ≡ true
  pub schema : s.now.schema ≡ old_schema_if has_index

-- the tables `claim` and `entry` are there, and those of schema 1 keep their rows
pub record WidensTables (old new : State) : Type 0 where
  pub inside : new.in_transaction ≡ true
  pub schema : new.now.schema ≡ wide_schema
  pub sound : IsDatabase new.now
  pub widened : IsWidened old.now.trees new.now.trees

-- whatever tables of schema 1 were widened, their rows are moved
abbrev pub FinishesMove : State → State → Type 0
FinishesMove old new =
    (tables : Trees) → AreMovable tables → IsWidened tables old.now.trees → IsMoved tables new.now.trees

-- the rows are moved, over this schema
pub record MovesRows (over : Schema) (old new : State) : Type 0 where
  pub inside : new.in_transaction ≡ true
  pub schema : new.now.schema ≡ over
  pub sound : IsDatabase new.now
  pub moved : FinishesMove old new
