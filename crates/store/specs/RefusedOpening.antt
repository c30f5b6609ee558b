-- What an opening or a making of a store that was refused leaves.
use Rattle.std.specs.Prelude.{◌≡◌, ◌≢◌, IsTrue}
use Rattle.registry.specs.CharterSets.{CharterSets}
use Rattle.sqlite.specs.Held.{Held, state}
use Rattle.sqlite.specs.State.{State, HasCleanDisk}
use Rattle.sqlite.specs.Store.{Ghosts}
use Rattle.store_transactions.specs.Databases.{LeavesOldOrNew}
use Rattle.store_transactions.specs.Statements.{IsAsBefore}
use Rattle.store_transactions.specs.declared.fault.StoreFault.{StoreFault}
use Rattle.store_transactions.specs.declared.fault.StoreFault.TheVariants.{Schema}
use Rattle.store_open.specs.Opening.{IsOfAnotherSchema, LeavesOldOrMoved}

-- The connection is returned with the fault. If the disk returned what was written, the fault is `Schema` only of what
-- was found as a database of another schema, the database is as it was found while the connection is open, and a crash
-- leaves what it left before, or, of a database of schema 1, the trees of a desk with what its tables held.
pub record IsGivenBack {S : Type 0} (g : Ghosts S) (found : State) (fault : StoreFault) (returned : Held S) : Type 0 where
  pub clean : HasCleanDisk (state g returned) → HasCleanDisk found
  pub schema : HasCleanDisk (state g returned) → fault ≡ Schema → IsOfAnotherSchema found.now
  pub same : HasCleanDisk (state g returned) → IsTrue (state g returned).is_open → IsAsBefore found (state g returned)
  pub left : HasCleanDisk (state g returned) → LeavesOldOrMoved found (state g returned)

-- The connection is returned with the fault of a store that was not made, which is never `Schema`. If the disk returned
-- what was written, the database is as it was found while the connection is open, and a crash leaves what it left
-- before, or, of an unused database, the tables with the charter and blank rows.
pub record IsNotMade {S : Type 0} (g : Ghosts S) (charter : CharterSets) (found : State) (fault : StoreFault) (returned : Held S) : Type 0 where
  pub clean : HasCleanDisk (state g returned) → HasCleanDisk found
  pub not_schema : fault ≢ Schema
  pub same : HasCleanDisk (state g returned) → IsTrue (state g returned).is_open → IsAsBefore found (state g returned)
  pub left : HasCleanDisk (state g returned) → LeavesOldOrNew charter found (state g returned)
