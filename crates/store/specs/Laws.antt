-- What follows for the rows of a history.
use Rattle.std.specs.Prelude.{◌≡◌, ℕ, List, Option, IsTrue}
use Rattle.std.specs.List.{AllByRecursion}
use Rattle.sqlite_trees.specs.Tree.{Trees}
use Rattle.sqlite_trees.specs.declared.memory.MemStore.{MemStore}
use Rattle.addr.specs.Name.{is_name}
use Rattle.registry.specs.CharterSets.{IsCharter}
use Rattle.sqlite.specs.Effect.{Database}
use Rattle.sqlite.specs.Held.{Held, state}
use Rattle.sqlite.specs.Steps.{over_memory}
use Rattle.registry.specs.declared.charter.Charter.{Charter}
use Rattle.registry.specs.declared.rows.HolderRows.{HolderRows}
use Rattle.registry.specs.Answer.{ListBasis, AnswersNumber, AreFacts}
use Rattle.registry.specs.declared.command.Command.{Command}
use Rattle.registry.specs.declared.command.Proposed.{Proposed}
use Rattle.registry.specs.History.{History}
use Rattle.registry.specs.PartOfRows.{IsPartIfAny, looked_for}
use Rattle.registry.specs.Rows.{Rows, rows_if_any, RowsIfAny}
use Rattle.registry.specs.RowsOfAll.{AllRows, HasRows}
use Rattle.registry.specs.Values.{HistoryFits, FitIfAny, FilesFit}
use Rattle.registry.specs.Verdict.{IsLegal, auth_of_number}
use Rattle.store_tables.specs.TablesHold.{TablesHold}
use Rattle.store_tables.specs.Tables.{desk_tables}
use Rattle.store_schema.specs.OldTables.{IsOldSchema, OldTablesHold}
use Rattle.store_transactions.specs.Databases.{IsHonest}
use Rattle.store_open.specs.Opening.{IsOfAnotherSchema}
use Rattle.store_open.specs.OldTablesRead.{OldTablesRead}
use Rattle.store_open.specs.TablesRead.{TablesRead}
use Rattle.store_read.specs.declared.answers.Loaded.{Loaded}
use Rattle.store_read.specs.Loads.{AreListed, AreLoaded, AreNumbered, IsLoadedFor, AllGiveOn}
use Rattle.store.specs.PartLoaded.{IsForChanges}
use Rattle.store.specs.declared.part.Part.{Part}
use Rattle.store.specs.StoreRows.{AreInRange, StoreView, connection_state, Holds}

-- The rows of a holder after a history, as they are loaded, are its rows after the history.
abbrev pub LoadsRowsOfHistories : Type 0
LoadsRowsOfHistories =
    (history : History) (h : List ℕ) (rows : Option Rows) (loaded : Option HolderRows)
    → RowsIfAny history h rows → AreLoaded rows loaded
    → RowsIfAny history h (rows_if_any loaded)

-- What is loaded of a holder and a number is what a request on that authorization is judged on, after a legal history.
abbrev pub LoadsNumberOfHistories : Type 0
LoadsNumberOfHistories =
    (charter : Charter) (history : History) (h : List ℕ) (n : ℕ) (rows : Option Rows) (part : HolderRows)
    → IsLegal charter history → RowsIfAny history h rows → AreNumbered n rows part
    → AnswersNumber history h n part.grants.items (auth_of_number n part.auths.items)

-- So are the grants and the authorizations that are loaded of a holder what a list is judged on.
abbrev pub LoadsListsOfHistories : Type 0
LoadsListsOfHistories =
    (charter : Charter) (history : History) (h : List ℕ) (rows : Option Rows) (part : HolderRows)
    → IsLegal charter history → RowsIfAny history h rows → AreListed rows part
    → ListBasis history h part.grants.items part.auths.items

-- So is what is loaded for a command.
abbrev pub LoadsFactsOfHistories : Type 0
LoadsFactsOfHistories =
    (charter : Charter) (history : History) (command : Command) (rows : AllRows) (loaded : Loaded)
    → IsLegal charter history → HasRows rows history → IsLoadedFor command rows loaded
    → AreFacts history command loaded.rows loaded.taker loaded.answers

-- What is loaded of a holder for hypothetical changes is a part of its rows that they are judged on, after a legal history.
abbrev pub LoadsPartsOfHistories : Type 0
LoadsPartsOfHistories =
    (charter : Charter) (history : History) (h : List ℕ) (changes : List Proposed) (rows : Option Rows) (part : Part)
    → IsLegal charter history → RowsIfAny history h rows → IsForChanges changes rows part
    → IsPartIfAny changes part.left_out (looked_for changes) rows (rows_if_any part.rows)

-- The rows of a legal history whose values are those of their types fit, so that no load of a holder
-- finds a row that shows none.
abbrev pub RowsOfHistoriesFit : Type 0
RowsOfHistoriesFit =
    (charter : Charter) (history : History) (rows : AllRows)
    → IsLegal charter history → HistoryFits history → HasRows rows history
    → (h : List ℕ) → FitIfAny (rows.of_holder h)

-- The SLURM files in force of such a history fit, so that no load of them finds a row that shows none, or more
-- exceptions than a file may have.
abbrev pub FilesOfHistoriesFit : Type 0
FilesOfHistoriesFit =
    (history : History) (rows : AllRows) → HistoryFits history → HasRows rows history
    → FilesFit rows.files

-- On each day the authorizations in force of such a history give VRPs, so that no load of the VRPs finds a
-- row that shows none.
abbrev pub AuthsOfHistoriesGive : Type 0
AuthsOfHistoriesGive =
    (charter : Charter) (history : History) (rows : AllRows) (day : ℕ)
    → IsLegal charter history → HistoryFits history → HasRows rows history
    → AllGiveOn rows day

-- Tables that hold a charter of names and the rows of such a history read, so that no opening of what a desk
-- left finds a row that shows none.
abbrev pub HistoriesRead : Type 0
HistoriesRead =
    (charter : Charter) (history : History) (rows : AllRows) (trees : Trees)
    → IsLegal charter history → HistoryFits history → HasRows rows history
    → IsCharter charter → AllByRecursion (λ name. IsTrue (is_name name)) charter.operators
    → TablesHold charter rows trees → TablesRead trees

-- So do tables of schema 1.
abbrev pub OldHistoriesRead : Type 0
OldHistoriesRead =
    (charter : Charter) (history : History) (rows : AllRows) (trees : Trees)
    → IsLegal charter history → HistoryFits history → HasRows rows history
    → IsCharter charter → AllByRecursion (λ name. IsTrue (is_name name)) charter.operators
    → OldTablesHold charter rows trees → OldTablesRead trees

-- Whatever rows tables hold that read, their values are in range.
abbrev pub RowsThatReadFit : Type 0
RowsThatReadFit =
    (charter : Charter) (rows : AllRows) (trees : Trees)
    → TablesHold charter rows trees → TablesRead trees → AreInRange rows

-- On each day the authorizations in force of rows in range give VRPs.
abbrev pub RowsInRangeGive : Type 0
RowsInRangeGive = (rows : AllRows) (day : ℕ) → AreInRange rows → AllGiveOn rows day

-- memory returns what was written
abbrev pub MemoryIsHonest : Type 0
MemoryIsHonest = IsHonest over_memory

-- memory never shuts, whatever the connection does
abbrev pub MemoryStaysOpen : Type 0
MemoryStaysOpen = (conn : Held MemStore) → IsTrue (state over_memory conn).is_open

-- Where a store in memory is said to hold rows, its tables do: neither premise of `Holds` is left.
abbrev pub MemoryHoldsRows : Type 0
MemoryHoldsRows =
    (store : StoreView MemStore) (rows : AllRows) → Holds over_memory store rows
    → TablesHold store.charter rows (connection_state over_memory store).now.trees

-- Tables of a desk that read are not of another schema.
abbrev pub TablesThatReadAreOurs : Type 0
TablesThatReadAreOurs =
    (db : Database) → db.schema.tables ≡ desk_tables → TablesRead db.trees → ¬ IsOfAnotherSchema db

-- Nor are those of schema 1.
abbrev pub OldTablesThatReadAreOurs : Type 0
OldTablesThatReadAreOurs =
    (db : Database) → IsOldSchema db.schema → OldTablesRead db.trees → ¬ IsOfAnotherSchema db
