-- What a change does to the tables within a transaction.
use Rattle.std.specs.Prelude.{◌≡◌, IsTrue}
use Rattle.sqlite.specs.Effect.{Database, IsDatabase}
use Rattle.sqlite.specs.State.{State}
use Rattle.sqlite_trees.specs.Tree.{Trees}
use Rattle.registry.specs.CharterSets.{CharterSets}
use Rattle.registry.specs.declared.change.Change.{Change}
use Rattle.registry.specs.declared.change.Change.TheVariants.{Holders, Exceptions}
use Rattle.registry.specs.RowsOfAll.{AllRows, changed_rows}
use Rattle.store_tables.specs.Tables.{slurm, contents}
use Rattle.store_tables.specs.TablesHold.{TablesHold, HoldsFromOne}
use Rattle.store_transactions.specs.Statements.{IsReady}

-- all rows after a change, from those before it
abbrev pub RowChange : Type 0
RowChange = AllRows → AllRows

-- What a change does to the table of exceptions: one of the SLURM files puts those of the files, each kind of a file
-- at the positions 1, 2, 3 and so on, and any other leaves the table as it was.
abbrev pub PlacesExceptions : Change → Trees → Trees → Type 0
PlacesExceptions (Holders first second) old new = new slurm.tree ≡ old slurm.tree
PlacesExceptions (Exceptions files) old new = HoldsFromOne files (contents (new slurm.tree))

-- the tables hold the rows after the change, if they held those before it, and it places the exceptions
abbrev pub RowsBecome : Change → Database → Database → Type 0
RowsBecome change old new =
    (charter : CharterSets) (rows : AllRows) → TablesHold charter rows old.trees
    → TablesHold charter (changed_rows change rows) new.trees × PlacesExceptions change old.trees new.trees

-- the transaction goes on, the schema stays, and this holds for the databases before and after
pub record MakesChange (so : Database → Database → Type 0) (old new : State) : Type 0 where
  pub was_open : IsTrue old.is_open
  pub ready : IsReady new
  pub schema : new.now.schema ≡ old.now.schema
  pub sound : IsDatabase old.now → IsDatabase new.now
  pub made : so old.now new.now
