-- What tables a database has whose trees are those of a desk, of this schema or of schema 1.
use Rattle.std.specs.Prelude.{◌≡◌}
use Rattle.sqlite.specs.Effect.{Database, IsDatabase}
use Rattle.store_tables.specs.Tables.{desk_tables}
use Rattle.store_schema.specs.OldTables.{IsOldSchema}
use Rattle.store_transactions.specs.Databases.{IsDeskTrees}
use Rattle.store_open.specs.OldTrees.{IsOldDeskTrees}

-- A database over the trees of a desk has the tables of a desk: trees list one schema at most.
abbrev pub DeskTreesHaveTables : Type 0
DeskTreesHaveTables =
    (db : Database) → IsDatabase db → IsDeskTrees db.trees → db.schema.tables ≡ desk_tables

-- And one over the trees of a desk of schema 1 has that schema.
abbrev pub OldDeskTreesHaveSchema : Type 0
OldDeskTreesHaveSchema =
    (db : Database) → IsDatabase db → IsOldDeskTrees db.trees → IsOldSchema db.schema
