-- What a desk keeps: its charter, in the tables of its store the rows of each holder and the SLURM files,
-- and beside them the VRPs of a day.
use Rattle.std.specs.Prelude.{◌≡◌, false, IfSome}
use Rattle.daily_vrps.specs.Days.{IsDayOf}
use Rattle.sqlite.specs.State.{State, HasCleanDisk}
use Rattle.sqlite.specs.Store.{Ghosts}
use Rattle.registry.specs.CharterSets.{IsCharter}
use Rattle.registry.specs.History.{History}
use Rattle.registry.specs.RowsOfAll.{AllRows, HasRows}
use Rattle.registry.specs.Verdict.{IsLegal}
use Rattle.registry.specs.declared.charter.Charter.{Charter}
use Rattle.store_schema.specs.EitherSchema.{EitherSchemaHolds}
use Rattle.store.specs.StoreRows.{connection_state, Holds, StoreView}
use Rattle.desk.specs.declared.desk.Desk.{Desk}

-- what a desk shows: its store
abbrev pub store_of : {S : Type 0} → Desk S → StoreView S
store_of desk = desk.store

abbrev pub charter_of : {S : Type 0} → Desk S → Charter
charter_of desk = (store_of desk).charter

-- The disk of the desk returned what was written, as memory always does. If the disk did not, nothing is known of the
-- desk.
abbrev pub IsOnCleanDisk : {S : Type 0} → Ghosts S → Desk S → Type 0
IsOnCleanDisk g desk = HasCleanDisk (connection_state g (store_of desk))

-- the tables hold the rows of the history
abbrev pub HoldsRowsOf : {S : Type 0} → Ghosts S → StoreView S → History → Type 0
HoldsRowsOf g store history = (rows : AllRows) × HasRows rows history × Holds g store rows

-- Once the connection is shut, nothing is known of the tables. The kept day is then still that of the history.
abbrev pub DayStaysWhileShut : {S : Type 0} → Ghosts S → Desk S → History → Type 0
DayStaysWhileShut g desk history =
    IsOnCleanDisk g desk → (connection_state g (store_of desk)).is_open ≡ false
    → IfSome desk.kept (IsDayOf history)

-- the tables of the desk hold the rows of the history, and the day that is kept over a shut connection is of it too
abbrev pub HoldsHistory : {S : Type 0} → Ghosts S → Desk S → History → Type 0
HoldsHistory g desk history =
    (rows : AllRows) × HasRows rows history × Holds g (store_of desk) rows × DayStaysWhileShut g desk history

-- this holds for each legal history that the desk held before, if the disk returned what was written
abbrev pub EachHistory : {S : Type 0} → Ghosts S → Desk S → Desk S → (History → Type 0) → Type 0
EachHistory g old new so =
    IsOnCleanDisk g new → (history : History) → IsLegal (charter_of old) history
    → HoldsHistory g old history → so history

-- this holds for each legal history whose rows the tables held before, if the disk returned what
-- was written
abbrev pub EachHeld : {S : Type 0} → Ghosts S → StoreView S → StoreView S → (History → Type 0) → Type 0
EachHeld g old new so =
    HasCleanDisk (connection_state g new) → (history : History) → IsLegal old.charter history
    → HoldsRowsOf g old history → so history

-- the tables hold the rows that they held
abbrev pub RowsStay : {S : Type 0} → Ghosts S → Desk S → Desk S → Type 0
RowsStay g old new =
    IsOnCleanDisk g new → (rows : AllRows)
    → Holds g (store_of old) rows → Holds g (store_of new) rows

-- the desk has the charter and the rows of the history, which is legal for it
pub record Represents {S : Type 0} (g : Ghosts S) (charter : Charter) (desk : Desk S) (history : History) : Type 0 where
  pub chartered : charter_of desk ≡ charter
  pub legal : IsLegal charter history
  pub rows : HoldsHistory g desk history

-- If the tables that were found held a charter and the rows of a legal history, in either schema, the desk has that
-- charter and that history.
abbrev pub ContinuesHistories : {S : Type 0} → Ghosts S → State → Desk S → Type 0
ContinuesHistories g found desk =
    (charter : Charter) (history : History) (rows : AllRows)
    → IsCharter charter → IsLegal charter history → HasRows rows history
    → EitherSchemaHolds charter rows found.now.trees → Represents g charter desk history
