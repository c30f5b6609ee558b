-- What the commit of a change does, and what it may put on the disk.
use Rattle.std.specs.Prelude.{◌≡◌, IsTrue}
use Rattle.sqlite.specs.Effect.{Database, IsDatabase}
use Rattle.sqlite.specs.State.{State}
use Rattle.sqlite_trees.specs.Tree.{Trees}
use Rattle.registry.specs.declared.change.Change.{Change}
use Rattle.store_tables.specs.Tables.{desk_tables}
use Rattle.store_transactions.specs.Databases.{IsDeskTrees}
use Rattle.store_write.specs.Changes.{RowsBecome}

-- the change is made and committed, and the schema stays
pub record CommitsChange (change : Change) (old new : State) : Type 0 where
  pub was_open : IsTrue old.is_open
  pub is_open : IsTrue new.is_open
  pub tables : new.now.schema.tables ≡ desk_tables
  pub schema : new.now.schema ≡ old.now.schema
  pub sound : IsDatabase new.now
  pub rows : RowsBecome change old.now new.now
  pub committed : new.committed ≡ new.now

-- what a commit may put on the disk: the trees of a desk after the change
abbrev pub MayCommit : Change → State → Trees → Type 0
MayCommit change old trees =
    (db : Database) × IsTrue old.is_open × RowsBecome change old.now db × (trees ≡ db.trees) × IsDeskTrees trees
