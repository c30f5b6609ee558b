-- The files of a desk: a database file and its log.
use Rattle.std.specs.Prelude.{ℕ, List, [], IsTrue}
use Rattle.std.specs.List.{AllByRecursion}
use Rattle.sqlite_disk.specs.declared.Disk.{Ghosts}
use Rattle.sqlite_disk.specs.Events.{replay}
use Rattle.sqlite_disk.specs.Modelled.{start_of}
use Rattle.sqlite_disk.specs.declared.Files.{Files}
use Rattle.sqlite_disk.specs.declared.calls.Calls as calls
use Rattle.sqlite_disk.specs.declared.modelled.Modelled.{Modelled}
use Rattle.sqlite_disk.specs.declared.start.Start as start
use Rattle.sqlite_std_file.specs.declared.host.Host.{Host}
use Rattle.sqlite_wal.specs.Recovery.{Image}
use Rattle.sqlite_wal.specs.Files.{outcomes}
use Rattle.sqlite_trees.specs.Tree.{Trees}
use Rattle.sqlite_store.specs.declared.store.FileStore.{FileStore}
use Rattle.sqlite.specs.Closing.{HoldsAlone}
use Rattle.sqlite.specs.Files.{file_state, HoldsDatabase, image_of, IsOpened, over_files}
use Rattle.sqlite.specs.Held.{Held}
use Rattle.sqlite.specs.Start.{FindsIn}
use Rattle.sqlite.specs.State.{HasCleanDisk, State}
use Rattle.addr.specs.Name.{is_name}
use Rattle.registry.specs.History.{History}
use Rattle.registry.specs.Values.{HistoryFits}
use Rattle.registry.specs.Verdict.{IsLegal}
use Rattle.registry.specs.declared.asked.Asked.{Asked}
use Rattle.registry.specs.CharterSets.{IsCharter}
use Rattle.registry.specs.declared.charter.Charter.{Charter}
use Rattle.store.specs.StoreRows as store
use Rattle.desk.specs.CrashOutcomes.{HoldDesk, LeavesAtMost, MayBeLeft}
use Rattle.desk.specs.Desk.{store_of, Represents}
use Rattle.desk.specs.Resumed.{HoldHistory, IsAtMostOneMore, MayBeFound, MayBeLeftInEitherSchema, Resumes}
use Rattle.desk.specs.declared.desk.Desk.{Desk}

-- the files hold a database with the charter and the rows of the history, in either schema
abbrev pub AreDeskFiles : Image → Charter → History → Type 0
AreDeskFiles image charter history =
    (trees : Trees) × HoldHistory charter history trees × ∥ HoldsDatabase image trees ∥₁

-- so they do of the history, or of the history with one of the pending requests
abbrev pub AreFoundFiles : Image → Charter → History → List Asked → Type 0
AreFoundFiles image charter history pending =
    (trees : Trees) × MayBeFound charter history pending trees × ∥ HoldsDatabase image trees ∥₁

-- how a file reads, by what was done to it since it was opened
abbrev pub seen_in : {S : Type 0} {g : calls.Ghosts Host} (first : start.Ghosts S) → Modelled Host S g first → List ℕ
seen_in first file = (replay (start_of first file) file.calls.log.events).seen

-- and so do the two
abbrev pub image_in : {S : Type 0} {g : calls.Ghosts Host} (first : start.Ghosts S) → Files (Modelled Host S g first) → Image
image_in first files = record { log = seen_in first files.log; db = seen_in first files.db }

-- where the disk returned what was written, the connection was opened over files that read so
abbrev pub IsOpenOver : {D : Type 0} {g : Ghosts D} → Held (FileStore D g) → Image → Type 0
IsOpenOver conn image = HasCleanDisk (file_state conn) → IsOpened conn × FindsIn image (file_state conn)

-- where the files hold a charter and a legal history, the desk has that charter and that history
abbrev pub ContinuesFiles : {D : Type 0} {g : Ghosts D} → Image → Desk (FileStore D g) → Type 0
ContinuesFiles image desk =
    (charter : Charter) (history : History)
    → IsCharter charter → IsLegal charter history → AreDeskFiles image charter history
    → Represents over_files charter desk history

-- where the files hold a legal history, or that with one of the pending requests, the desk resumes it
abbrev pub ResumesFiles : {D : Type 0} {g : Ghosts D} → Image → Desk (FileStore D g) → Type 0
ResumesFiles image desk =
    (charter : Charter) (before : History) (pending : List Asked)
    → IsCharter charter → IsLegal charter before → AreFoundFiles image charter before pending
    → Resumes over_files charter before pending desk

-- The files hold a database whose tables may be left of the history with these requests pending.
abbrev pub AreLeftFiles : Image → Charter → History → List Asked → Type 0
AreLeftFiles image charter history pending =
    (trees : Trees) × MayBeLeft charter history pending trees × ∥ HoldsDatabase image trees ∥₁

-- so may they be, in either schema
abbrev pub AreLeftFilesInEitherSchema : Image → Charter → History → List Asked → Type 0
AreLeftFilesInEitherSchema image charter history pending =
    (trees : Trees) × MayBeLeftInEitherSchema charter history pending trees × ∥ HoldsDatabase image trees ∥₁

-- The files may be left of a legal history with requests pending, in either schema. The operators of the charter have
-- names, and whichever request is accepted, the values of the history are those of their types.
pub record AreLeftOfLegal (image : Image) : Type 0 where
  pub charter : Charter
  pub before : History
  pub pending : List Asked
  pub chartered : IsCharter charter
  pub named : AllByRecursion (λ name. IsTrue (is_name name)) charter.operators
  pub legal : IsLegal charter before
  pub fits : (after : History) → IsAtMostOneMore charter before pending after → HistoryFits after
  pub left : AreLeftFilesInEitherSchema image charter before pending

-- ---- what a crash may leave of files

-- Whatever a crash leaves of the files, that holds a database whose tables may be left of the history with these requests
-- pending, in either schema.
abbrev pub FilesLeaveAtMost : {D : Type 0} → Ghosts D → Charter → Files D → History → List Asked → Type 0
FilesLeaveAtMost g charter files history pending =
    (image : Image) → outcomes g files.log files.db image
    → ∥ AreLeftFilesInEitherSchema image charter history pending ∥₁

-- a crash of the new files leaves no more than one of the old files did
abbrev pub LeavesNoMore : {D : Type 0} → Ghosts D → Files D → Files D → Type 0
LeavesNoMore g old new =
    (charter : Charter) (history : History) (pending : List Asked)
    → FilesLeaveAtMost g charter old history pending → FilesLeaveAtMost g charter new history pending

-- whatever a crash leaves of the files, that holds trees which a crash of the connection may leave
abbrev pub HoldLeft : {D : Type 0} → Ghosts D → State → Files D → Type 0
HoldLeft g state files =
    (image : Image) → outcomes g files.log files.db image
    → ∥ ((trees : Trees) × state.may_leave trees × HoldsDatabase image trees) ∥₁

-- where a crash of the files leaves at most a legal history with requests pending, the desk resumes it
abbrev pub ResumesLeft : {D : Type 0} (g : Ghosts D) → Files D → Desk (FileStore D g) → Type 0
ResumesLeft g files desk =
    (charter : Charter) (before : History) (pending : List Asked)
    → IsCharter charter → IsLegal charter before → FilesLeaveAtMost g charter files before pending
    → ∥ Resumes over_files charter before pending desk ∥₁

-- A crash of the files leaves at most a legal history with requests pending. The operators of the charter have names, and
-- whichever request is accepted, the values of the history are those of their types.
pub record LeaveLegal {D : Type 0} (g : Ghosts D) (files : Files D) : Type 0 where
  pub charter : Charter
  pub before : History
  pub pending : List Asked
  pub chartered : IsCharter charter
  pub named : AllByRecursion (λ name. IsTrue (is_name name)) charter.operators
  pub legal : IsLegal charter before
  pub fits : (after : History) → IsAtMostOneMore charter before pending after → HistoryFits after
  pub left : FilesLeaveAtMost g charter files before pending

-- the desk was opened over what a connection to files that read so found, and not made there
abbrev pub OpensFiles : {D : Type 0} {g : Ghosts D} → Image → Desk (FileStore D g) → Type 0
OpensFiles {D} {g} image desk =
    (found : Held (FileStore D g)) × IsOpenOver found image × store.IsOpened over_files (file_state found) (store_of desk)

-- The files hold a desk, as they read now and as a crash leaves them, and the database file does so
-- without its log.
pub record FilesHoldDesk {D : Type 0} (g : Ghosts D) (charter : Charter) (history : History) (files : Files D) : Type 0 where
  pub trees : Trees
  pub desk : HoldDesk charter history trees
  pub seen : HoldsAlone (image_of g files) trees
  pub left : (image : Image) → outcomes g files.log files.db image → HoldsAlone image trees

-- The files hold a database as it may be left of any history with requests pending of which a crash of the desk may
-- leave no more; so do they once the power has failed.
pub record LeavesFiles {D : Type 0} (g : Ghosts D) (desk : Desk (FileStore D g)) (files : Files D) : Type 0 where
  pub seen :
      (charter : Charter) (history : History) (pending : List Asked)
      → LeavesAtMost over_files charter desk history pending
      → ∥ AreLeftFiles (image_of g files) charter history pending ∥₁
  pub left :
      (charter : Charter) (history : History) (pending : List Asked)
      → LeavesAtMost over_files charter desk history pending
      → (image : Image) → outcomes g files.log files.db image
      → ∥ AreLeftFiles image charter history pending ∥₁

-- a crash of files that keep a desk leaves its history, and nothing else
abbrev pub HeldLeaves : {D : Type 0} → Ghosts D → Type 0
HeldLeaves {D} g =
    (charter : Charter) (history : History) (files : Files D)
    → FilesHoldDesk g charter history files → FilesLeaveAtMost g charter files history []

-- a crash of the files of a desk that was stopped leaves no more than one of the desk did
abbrev pub StoppedLeaves : {D : Type 0} → Ghosts D → Type 0
StoppedLeaves {D} g =
    (desk : Desk (FileStore D g)) (files : Files D) (charter : Charter) (history : History) (pending : List Asked)
    → LeavesFiles g desk files → LeavesAtMost over_files charter desk history pending
    → FilesLeaveAtMost g charter files history pending
