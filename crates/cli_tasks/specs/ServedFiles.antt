-- What `serve` leaves of the files of a desk, and why it ended early.
use Rattle.std.specs.Prelude.{◌≡◌, ◌≢◌, ◌⊎◌, ◌<◌, ℕ, Bool, true, All, List, [], Option, Some, Result, Ok, Err, IfErr, IfOk, ⊤}
use Rattle.std.specs.declared.io.ErrorKind.{ErrorKind}
use Rattle.std.specs.declared.io.ErrorKind.TheVariants.{OutOfMemory}
use Rattle.sqlite_disk.specs.declared.Disk.{Ghosts}
use Rattle.sqlite_disk.specs.declared.Files.{Files}
use Rattle.sqlite_wal.specs.Recovery.{Image}
use Rattle.sqlite_store.specs.declared.store.FileStore.{FileStore}
use Rattle.sqlite.specs.Files.{image_of, over_files, FailsToClose}
use Rattle.registry.specs.CharterSets.{IsCharter}
use Rattle.registry.specs.declared.charter.Charter.{Charter}
use Rattle.registry.specs.History.{History}
use Rattle.registry.specs.Values.{AskedFits, HistoryFits}
use Rattle.registry.specs.Verdict.{IsLegal}
use Rattle.registry.specs.declared.asked.Asked.{Asked}
use Rattle.cli_texts.specs.declared.fault.ProgramFault.TheVariants.{Memory, Socket}
use Rattle.desk.specs.CrashOutcomes.{LeavesAtMost}
use Rattle.desk.specs.Desk.{Represents, store_of}
use Rattle.desk.specs.Resumed.{IsAtMostOneMore}
use Rattle.desk.specs.declared.desk.Desk.{Desk}
use Rattle.desk_files.specs.DeskFiles.{AreFoundFiles, OpensFiles}
use Rattle.desk_files.specs.Lives.{StoreLeavesAtMost}
use Rattle.desk_files.specs.Refused.{RefusedLeaves, RefusesFiles, RefusesNoLeft, RefusesNoLegal}
use Rattle.desk_files.specs.declared.file.CloseFault.{CloseFault}
use Rattle.web.specs.ScriptAnswer.{Standing}
use Rattle.cli_tasks.specs.ServedHistories.{ConnectionLeaves, HoldServed}
use Rattle.cli_tasks.specs.Serving.{AnswersInTurn, ServesInTurn, Transcript}
use Rattle.cli_tasks.specs.declared.serve_desk.ServeFault.{ServeFault}
use Rattle.cli_tasks.specs.declared.serve_desk.ServeFault.TheVariants.{Accept, Bind, Close, Open}

-- this holds of the files, where the desk in them was opened and they were closed
abbrev pub IfClosed : {D : Type 0} {g : Ghosts D} → Result (Files D) (ServeFault D g) → (Files D → Type 0) → Type 0
IfClosed (Ok files) Holds = Holds files
IfClosed (Err (Open fault)) Holds = ⊤
IfClosed (Err (Bind fault closed)) Holds = IfOk closed Holds
IfClosed (Err (Accept closed)) Holds = IfOk closed Holds
IfClosed (Err (Close fault)) Holds = ⊤

-- this holds of the fault of the close, where the desk in the files was opened and they were not closed
abbrev pub IfUnclosed : {D : Type 0} {g : Ghosts D} → Result (Files D) (ServeFault D g) → (CloseFault D g → Type 0) → Type 0
IfUnclosed (Ok files) Holds = ⊤
IfUnclosed (Err (Open fault)) Holds = ⊤
IfUnclosed (Err (Bind fault closed)) Holds = IfErr closed Holds
IfUnclosed (Err (Accept closed)) Holds = IfErr closed Holds
IfUnclosed (Err (Close fault)) Holds = Holds fault

-- How many connections there were: all of the count where only the close was left, fewer where the next one could not be
-- accepted, and none where nothing was bound.
abbrev pub IsServedCount : {D : Type 0} {g : Ghosts D} → Result (Files D) (ServeFault D g) → ℕ → ℕ → Type 0
IsServedCount (Ok files) served count = served ≡ count
IsServedCount (Err (Open fault)) served count = served ≡ 0
IsServedCount (Err (Bind fault closed)) served count = served ≡ 0
IsServedCount (Err (Accept closed)) served count = served < count
IsServedCount (Err (Close fault)) served count = served ≡ count

-- From files that hold a legal history, or that with one of the pending requests, to files of a history to which these
-- connections on the day lead: from that history, or from it with one of the requests. Where none is pending, it is from
-- that history.
abbrev pub FilesGoOn : {D : Type 0} (g : Ghosts D) → Image → ℕ → List Transcript → Files D → Type 0
FilesGoOn g image day passed files =
    (charter : Charter) (before : History) (pending : List Asked)
    → IsCharter charter → IsLegal charter before → AreFoundFiles image charter before pending
    → (history : History) × IsAtMostOneMore charter before pending history
    × HoldServed g charter day passed history files

-- From a history with requests pending these connections on the day lead to a legal one, and what is left allows that one
-- with what is then pending. Both are of values of their types if those before were.
pub record LeavesServed (charter : Charter) (day : ℕ) (passed : List Transcript) (before : Standing)
    (Allows : History → List Asked → Type 0) : Type 0 where
  pub after : Standing
  pub leads : AnswersInTurn (ConnectionLeaves charter day) before passed after
  pub legal : IsLegal charter after.history
  pub fits : HistoryFits before.history → HistoryFits after.history
  pub asked_fit : All AskedFits before.pending → All AskedFits after.pending
  pub left : Allows after.history after.pending

-- From a desk of which a crash leaves at most a history that it has with requests pending, to a store of which one leaves
-- at most that to which these connections on the day lead.
abbrev pub LeavesStore : {D : Type 0} {g : Ghosts D} → ℕ → Desk (FileStore D g) → List Transcript → FileStore D g → Type 0
LeavesStore day desk passed store =
    (charter : Charter) (before : Standing)
    → Represents over_files charter desk before.history
    → LeavesAtMost over_files charter desk before.history before.pending
    → LeavesServed charter day passed before (StoreLeavesAtMost over_files charter store)

-- As FilesGoOn, to a store of which a crash leaves at most the history to which the connections lead, with what is then
-- pending.
abbrev pub LeavesUnclosed : {D : Type 0} {g : Ghosts D} → Image → ℕ → List Transcript → FileStore D g → Type 0
LeavesUnclosed image day passed store =
    (charter : Charter) (before : History) (pending : List Asked)
    → IsCharter charter → IsLegal charter before → AreFoundFiles image charter before pending
    → (history : History) × IsAtMostOneMore charter before pending history
    × LeavesServed charter day passed (record { history = history; pending = [] }) (StoreLeavesAtMost over_files charter store)

-- The desk as it was after these connections on the day, or where there was none as it was opened, was not closed, for the
-- cause that the error states.
pub record FailsToCloseAfter {D : Type 0} {g : Ghosts D} (day : ℕ) (desk : Desk (FileStore D g)) (passed : List Transcript)
    (fault : CloseFault D g) : Type 0 where
  pub last : Desk (FileStore D g)
  pub answered : ServesInTurn over_files day desk passed last ⊎ ((passed ≡ []) × (last ≡ desk))
  pub cause : FailsToClose (store_of last).connection fault.store fault.error

-- the same of a desk that was opened in files that read so
pub record FailsToCloseOver {D : Type 0} {g : Ghosts D} (image : Image) (day : ℕ) (passed : List Transcript)
    (fault : CloseFault D g) : Type 0 where
  pub desk : Desk (FileStore D g)
  pub opened : OpensFiles image desk
  pub fails : FailsToCloseAfter day desk passed fault

-- Each fault with its cause: the desk in the files was not opened, which is not for its schema where they may be left of
-- a legal history, and leaves no more of them than before; listening failed with an error of this kind, for want of memory
-- or else at the socket; or the last connection could not be accepted.
abbrev pub IsCauseOf : {D : Type 0} {g : Ghosts D} → Files D → Option ErrorKind → Bool → ServeFault D g → Type 0
IsCauseOf {D} {g} files listen_error not_accepted (Open fault) =
    RefusesFiles (image_of g files) fault × RefusesNoLeft (image_of g files) fault × RefusesNoLegal files fault
    × RefusedLeaves files fault
IsCauseOf files listen_error not_accepted (Bind fault closed) =
    (kind : ErrorKind) × (listen_error ≡ Some kind)
    × (kind ≡ OutOfMemory → fault ≡ Memory) × (kind ≢ OutOfMemory → fault ≡ Socket)
IsCauseOf files listen_error not_accepted (Accept closed) = not_accepted ≡ true
IsCauseOf files listen_error not_accepted (Close fault) = ⊤

-- a cause that comes once the desk was opened and the socket bound
abbrev pub IsLateCause : {D : Type 0} {g : Ghosts D} → Bool → ServeFault D g → Type 0
IsLateCause not_accepted (Open fault) = ⊥
IsLateCause not_accepted (Bind fault closed) = ⊥
IsLateCause not_accepted (Accept closed) = not_accepted ≡ true
IsLateCause not_accepted (Close fault) = ⊤

-- this holds, where the desk was not opened
abbrev pub IfNotOpened : {D : Type 0} {g : Ghosts D} → Result (Files D) (ServeFault D g) → Type 0 → Type 0
IfNotOpened (Ok files) Holds = ⊤
IfNotOpened (Err (Open fault)) Holds = Holds
IfNotOpened (Err (Bind fault closed)) Holds = ⊤
IfNotOpened (Err (Accept closed)) Holds = ⊤
IfNotOpened (Err (Close fault)) Holds = ⊤

-- this holds, where the desk was opened and the socket bound
abbrev pub IfServed : {D : Type 0} {g : Ghosts D} → Result (Files D) (ServeFault D g) → Type 0 → Type 0
IfServed (Ok files) Holds = Holds
IfServed (Err (Open fault)) Holds = ⊤
IfServed (Err (Bind fault closed)) Holds = ⊤
IfServed (Err (Accept closed)) Holds = Holds
IfServed (Err (Close fault)) Holds = Holds
