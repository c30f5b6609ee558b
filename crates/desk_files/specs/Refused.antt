-- Why a desk in files was not opened, closed or made, and what is left of the files.
use Rattle.std.specs.Prelude.{◌≡◌, ◌⊎◌, List, [], ⊤}
use Rattle.sqlite_disk.specs.declared.Disk.{Ghosts}
use Rattle.sqlite_disk.specs.declared.Files.{Files}
use Rattle.sqlite_wal.specs.Files.{outcomes}
use Rattle.sqlite_wal.specs.Reads.{AreClean}
use Rattle.sqlite_wal.specs.Recovery.{Image}
use Rattle.sqlite_trees.specs.Tree.{Trees}
use Rattle.sqlite_trees.specs.View.{IsClean}
use Rattle.sqlite_store.specs.FileStore.{view}
use Rattle.sqlite_store.specs.declared.store.FileStore.{FileStore}
use Rattle.sqlite.specs.Files.{file_state, image_of, over_files, FailsToClose, FailsToOpenFiles, HoldsDatabase, IsCleanLeft}
use Rattle.sqlite.specs.Files as sqlite
use Rattle.sqlite.specs.Held.{Held}
use Rattle.sqlite.specs.State.{HasCleanDisk}
use Rattle.sqlite.specs.declared.error.Error.{Error}
use Rattle.sqlite.specs.declared.file.Leftover.{Leftover}
use Rattle.sqlite.specs.declared.file.Leftover.TheVariants as left
use Rattle.registry.specs.declared.charter.Charter.{Charter}
use Rattle.registry.specs.History.{History}
use Rattle.registry.specs.declared.asked.Asked.{Asked}
use Rattle.cli_texts.specs.declared.fault.ProgramFault.{ProgramFault}
use Rattle.store_transactions.specs.declared.fault.StoreFault.{StoreFault}
use Rattle.store_transactions.specs.declared.fault.StoreFault.TheVariants.{Schema}
use Rattle.store_transactions.specs.Databases.{IsNew, IsUnused}
use Rattle.store_open.specs.Opening.{AreMoved, IsOfAnotherSchema}
use Rattle.store.specs.StoreRows.{connection_state}
use Rattle.desk.specs.CrashOutcomes.{HoldDesk, LeavesAtMost}
use Rattle.desk.specs.Desk.{charter_of, HoldsHistory, IsOnCleanDisk, store_of}
use Rattle.desk.specs.declared.desk.Desk.{Desk}
use Rattle.desk_files.specs.DeskFiles.{AreLeftOfLegal, IsOpenOver, FilesHoldDesk, LeaveLegal, LeavesNoMore}
use Rattle.desk_files.specs.Faults.{IsFaultOf, IsOfDatabase}
use Rattle.desk_files.specs.Lives.{StoreLeavesAtMost}
use Rattle.desk_files.specs.declared.file.CloseFault.{CloseFault}
use Rattle.desk_files.specs.declared.file.MakeFault.{MakeFault}
use Rattle.desk_files.specs.declared.file.MakeFault.TheVariants as unmade
use Rattle.desk_files.specs.declared.file.OpenFault.{OpenFault}
use Rattle.desk_files.specs.declared.file.OpenFault.TheVariants.{File, Path, Store}

-- ---- not opened

-- The database that was found in files that read so was refused, and the files are returned. If their disk returned what
-- was written, the fault is `Schema` only of a database of another schema, and whatever a crash leaves of the files holds
-- the trees that were found, or, of a database of schema 1, those of a desk with what its tables held.
pub record RefusedDatabase {D : Type 0} (g : Ghosts D) (image : Image) (fault : StoreFault) (files : Files D) : Type 0 where
  pub found : Held (FileStore D g)
  pub over : IsOpenOver found image
  pub clean : AreClean g files.log files.db → HasCleanDisk (file_state found)
  pub schema : AreClean g files.log files.db → fault ≡ Schema → IsOfAnotherSchema (file_state found).now
  pub left :
      AreClean g files.log files.db → (after : Image) → outcomes g files.log files.db after
      → ∥ ((trees : Trees) × ((trees ≡ (file_state found).now.trees) ⊎ AreMoved (file_state found) trees)
      × HoldsDatabase after trees) ∥₁

-- Why the desk in files that read so was not opened: there are no files at the path, the files could not be opened, or
-- the database that was found there was refused. So the fault is `Schema` only where the files hold a database of another
-- schema, or the disk returned what was not written.
abbrev pub RefusesFiles : {D : Type 0} {g : Ghosts D} → Image → OpenFault D g → Type 0
RefusesFiles image (Path fault) = IsOfDatabase fault
RefusesFiles image (File fault rest) = IsOfDatabase fault
RefusesFiles {D} {g} image (Store fault files) = RefusedDatabase g image fault files

-- Where the disk returned what was written, files that may be left of a legal history, in either schema, are not refused
-- as a database of another schema.
abbrev pub RefusesNoLeft : {D : Type 0} {g : Ghosts D} → Image → OpenFault D g → Type 0
RefusesNoLeft image (Path fault) = ⊤
RefusesNoLeft image (File fault rest) = ⊤
RefusesNoLeft {D} {g} image (Store fault files) =
    AreClean g files.log files.db → fault ≡ Schema → ¬ AreLeftOfLegal image

-- the same of files of which a crash leaves at most a legal history
abbrev pub RefusesNoLegal : {D : Type 0} {g : Ghosts D} → Files D → OpenFault D g → Type 0
RefusesNoLegal files (Path fault) = ⊤
RefusesNoLegal files (File fault rest) = ⊤
RefusesNoLegal {D} {g} files (Store fault now) =
    AreClean g now.log now.db → fault ≡ Schema → ¬ LeaveLegal g files

-- The fault says why the files could not be opened, if the disk returned what was written: an allocation failed, they
-- hold no database, the disk failed, or a limit was met.
abbrev pub FailsToOpen : {D : Type 0} {g : Ghosts D} → Files D → ProgramFault → Leftover D g → Type 0
FailsToOpen files fault rest =
    IsCleanLeft rest → (error : Error) × IsFaultOf error fault × FailsToOpenFiles files rest error

-- What is left of the files where the desk in them was not opened and the disk returned what was written. Of files that
-- could not be opened it is what SQLite leaves. If the database was refused, a crash leaves no more than before, and the
-- disk had returned what was written before too. That there are no files is no fault of files.
abbrev pub RefusedLeaves : {D : Type 0} {g : Ghosts D} → Files D → OpenFault D g → Type 0
RefusedLeaves files (Path fault) = ⊥
RefusedLeaves files (File fault rest) =
    FailsToOpen files fault rest × (IsCleanLeft rest → sqlite.LeavesFiles files rest)
RefusedLeaves {D} {g} files (Store fault now) =
    AreClean g now.log now.db → AreClean g files.log files.db × LeavesNoMore g files now

-- the same of files that read so, where there were any
abbrev pub RefusedLeavesOver : {D : Type 0} {g : Ghosts D} → Image → OpenFault D g → Type 0
RefusedLeavesOver image (Path fault) = ⊤
RefusedLeavesOver {D} {g} image (File fault rest) =
    (files : Files D) × (image_of g files ≡ image) × RefusedLeaves files (File fault rest)
RefusedLeavesOver {D} {g} image (Store fault now) =
    (files : Files D) × (image_of g files ≡ image) × RefusedLeaves {g = g} files (Store fault now)

-- ---- not closed

-- The desk was not closed, and the store is what is left of it. The error says why, if the disk returned what was
-- written: an allocation failed, the disk failed during the close, or a failure had shut the connection before it. A
-- crash of the store leaves no more than one of the desk did.
pub record UnclosedLeaves {D : Type 0} {g : Ghosts D} (desk : Desk (FileStore D g)) (fault : CloseFault D g) : Type 0 where
  pub clean : IsClean (view fault.store) → IsOnCleanDisk over_files desk
  pub cause : IsClean (view fault.store) → FailsToClose (store_of desk).connection fault.store fault.error
  pub left :
      (charter : Charter) (history : History) (pending : List Asked)
      → LeavesAtMost over_files charter desk history pending
      → StoreLeavesAtMost over_files charter fault.store history pending

-- The desk was not closed, or it was closed and not opened again in its files.
abbrev pub RefusesReopen : {D : Type 0} {g : Ghosts D} → Desk (FileStore D g) → OpenFault D g → Type 0
RefusesReopen {D} {g} desk fault =
    ((closing : CloseFault D g) × (told : ProgramFault) × IsFaultOf closing.error told
    × (fault ≡ File told (left.Store closing.store)) × UnclosedLeaves desk closing)
    ⊎ ((files : Files D)
    × (AreClean g files.log files.db → (history : History) → HoldsHistory over_files desk history
    → FilesHoldDesk g (charter_of desk) history files)
    × RefusesFiles (image_of g files) fault × RefusedLeaves files fault)

-- ---- not made

-- a desk that was made of the charter was not closed, for the cause that the error states
pub record FailsToCloseNew {D : Type 0} {g : Ghosts D} (charter : Charter) (fault : CloseFault D g) : Type 0 where
  pub desk : Desk (FileStore D g)
  pub made : IsNew charter (connection_state over_files (store_of desk))
  pub cause : FailsToClose (store_of desk).connection fault.store fault.error

-- What is left where no desk was made and the disk returned what was written. If the database was refused, whatever a
-- crash leaves of the files holds trees that it left before, or, of an unused database, those of a desk of the charter
-- with no history. If the desk was made and not closed, the error says why, and a crash of the store leaves that desk.
abbrev pub LeavesUnmade : {D : Type 0} {g : Ghosts D} → Charter → Held (FileStore D g) → MakeFault D g → Type 0
LeavesUnmade {D} {g} charter conn (unmade.Database files) =
    AreClean g files.log files.db
    → HasCleanDisk (file_state conn)
    × ((image : Image) → outcomes g files.log files.db image
    → ∥ ((trees : Trees)
    × ((file_state conn).may_leave trees ⊎ (IsUnused (file_state conn) × HoldDesk charter [] trees))
    × HoldsDatabase image trees) ∥₁)
LeavesUnmade charter conn (unmade.Close fault) =
    IsUnused (file_state conn)
    × (IsClean (view fault.store) → HasCleanDisk (file_state conn) × FailsToCloseNew charter fault
    × StoreLeavesAtMost over_files charter fault.store [] [])
