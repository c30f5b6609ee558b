-- The move of a database of schema 1 as a whole.
use Rattle.std.specs.Prelude.{◌≡◌, true}
use Rattle.sqlite.specs.Effect.{IsDatabase}
use Rattle.sqlite.specs.State.{State}
use Rattle.sqlite_trees.specs.Tree.{Trees}
use Rattle.store_schema.specs.Moved.{AreMovable, IsMoved}
use Rattle.registry.specs.CharterSets.{CharterSets}
use Rattle.store_schema.specs.OldTables.{HasOldNumber}
use Rattle.store_tables.specs.Tables.{desk_schema}
use Rattle.store_open.specs.steps.Opened.{ReadAndHold}

-- A database of schema 1 is moved, and its rows read: the transaction shows a desk that holds some rows, each row in the
-- range of its type. Its tables had the number of schema 1, and where they were movable they are moved.
pub record MovesDesk (charter : CharterSets) (old : Trees) (new : State) : Type 0 where
  pub inside : new.in_transaction ≡ true
  pub schema : new.now.schema ≡ desk_schema
  pub sound : IsDatabase new.now
  pub numbered : HasOldNumber old
  pub moved : AreMovable old → IsMoved old new.now.trees
  pub held : ReadAndHold charter new.now
