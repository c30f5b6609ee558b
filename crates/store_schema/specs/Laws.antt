-- What holds of the move.
use Rattle.sqlite_trees.specs.Tree.{Trees}
use Rattle.registry.specs.CharterSets.{CharterSets}
use Rattle.registry.specs.RowsOfAll.{AllRows}
use Rattle.store_tables.specs.TablesHold.{TablesHold}
use Rattle.store_schema.specs.Moved.{IsMoved}
use Rattle.store_schema.specs.OldTables.{OldTablesHold}

-- What the tables of schema 1 hold is what the tables of a desk hold after the move.
abbrev pub MovedTablesHold : Type 0
MovedTablesHold =
    (charter : CharterSets) (rows : AllRows) (old new : Trees)
    → OldTablesHold charter rows old → IsMoved old new → TablesHold charter rows new
