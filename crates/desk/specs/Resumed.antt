-- What a desk holds that was opened over what a stop left.
use Rattle.std.specs.Prelude.{◌≡◌, ◌⊎◌, All, List, [], Contains, IsTrue}
use Rattle.std.specs.List.{AllByRecursion}
use Rattle.sqlite.specs.State.{State}
use Rattle.sqlite.specs.Store.{Ghosts}
use Rattle.sqlite_trees.specs.Tree.{Trees}
use Rattle.addr.specs.Name.{is_name}
use Rattle.registry.specs.CharterSets.{IsCharter}
use Rattle.registry.specs.declared.charter.Charter.{Charter}
use Rattle.registry.specs.History.{History}
use Rattle.registry.specs.RowsOfAll.{AllRows, HasRows}
use Rattle.registry.specs.Values.{AskedFits, HistoryFits}
use Rattle.registry.specs.Verdict.{IsLegal}
use Rattle.registry.specs.declared.asked.Asked.{Asked}
use Rattle.store_schema.specs.EitherSchema.{EitherSchemaHolds}
use Rattle.store_schema.specs.OldTables.{OldTablesHold}
use Rattle.store_open.specs.OldTrees.{IsOldDeskTrees}
use Rattle.desk.specs.CrashOutcomes.{IsAcceptedOn, LeavesAtMost, MayBeLeft}
use Rattle.desk.specs.Desk.{Represents}
use Rattle.desk.specs.declared.desk.Desk.{Desk}

-- the history before, or that history with one of the pending requests accepted
abbrev pub IsAtMostOneMore : Charter → History → List Asked → History → Type 0
IsAtMostOneMore charter before pending after =
    (after ≡ before)
    ⊎ ((asked : Asked) × Contains pending asked × IsAcceptedOn charter before asked after)

-- its values are those of their types where those of the history and of the pending requests are
abbrev pub PendingFits : Type 0
PendingFits =
    (charter : Charter) (before : History) (pending : List Asked) (after : History)
    → HistoryFits before → All AskedFits pending → IsAtMostOneMore charter before pending after
    → HistoryFits after

-- The desk has the history before, or that history with one of the pending requests accepted. A crash leaves what the
-- desk has and nothing else, so no request is pending any more.
abbrev pub Resumes : {S : Type 0} → Ghosts S → Charter → History → List Asked → Desk S → Type 0
Resumes g charter before pending desk =
    (after : History) × IsAtMostOneMore charter before pending after
    × Represents g charter desk after × LeavesAtMost g charter desk after []

-- the tables hold the charter and the rows of the history, in either schema
abbrev pub HoldHistory : Charter → History → Trees → Type 0
HoldHistory charter history trees =
    (rows : AllRows) × HasRows rows history × EitherSchemaHolds charter rows trees

-- so do they of the history, or of the history with one of the pending requests
abbrev pub MayBeFound : Charter → History → List Asked → Trees → Type 0
MayBeFound charter before pending trees =
    (after : History) × IsAtMostOneMore charter before pending after × HoldHistory charter after trees

-- where the tables that were found hold a legal history, or that with one of the pending requests, the desk resumes it
abbrev pub ResumesHistories : {S : Type 0} → Ghosts S → State → Desk S → Type 0
ResumesHistories g found desk =
    (charter : Charter) (before : History) (pending : List Asked)
    → IsCharter charter → IsLegal charter before → MayBeFound charter before pending found.now.trees
    → Resumes g charter before pending desk

-- the trees are those of a desk of schema 1, whose tables hold the charter and the rows of the history
abbrev pub HoldOldDesk : Charter → History → Trees → Type 0
HoldOldDesk charter history trees =
    (rows : AllRows) × HasRows rows history × OldTablesHold charter rows trees × IsOldDeskTrees trees

-- the tables are those of the history, or of the history with one of the pending requests, in either schema
abbrev pub MayBeLeftInEitherSchema : Charter → History → List Asked → Trees → Type 0
MayBeLeftInEitherSchema charter before pending trees =
    MayBeLeft charter before pending trees
    ⊎ ((after : History) × IsAtMostOneMore charter before pending after × HoldOldDesk charter after trees)

-- An open connection found what may be left of a legal history with requests pending, in either schema. The operators of
-- the charter have names, and whichever request is accepted, the values of the history are those of their types.
pub record FindsLeft (found : State) : Type 0 where
  pub charter : Charter
  pub before : History
  pub pending : List Asked
  pub is_open : IsTrue found.is_open
  pub chartered : IsCharter charter
  pub named : AllByRecursion (λ name. IsTrue (is_name name)) charter.operators
  pub legal : IsLegal charter before
  pub fits : (after : History) → IsAtMostOneMore charter before pending after → HistoryFits after
  pub left : MayBeLeftInEitherSchema charter before pending found.now.trees
