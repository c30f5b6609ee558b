-- The trees of a desk of schema 1.
use Rattle.sqlite_catalog.specs.Listing.{IsSound}
use Rattle.sqlite_schema.specs.declared.schema.Schema.{Schema}
use Rattle.sqlite_trees.specs.Tree.{Trees}
use Rattle.store_schema.specs.OldTables.{IsOldSchema}

-- the trees list schema 1, and obey it
pub record IsOldDeskTrees (trees : Trees) : Type 0 where
  pub schema : Schema
  pub old : IsOldSchema schema
  pub sound : IsSound schema trees
