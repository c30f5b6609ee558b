-- The names of the logic, of other crates and of the definitions that the proofs use, in one place.
pub use Rattle.std.proofs.Common.{All, Err, IfErr, IfOk, IsTrue, List, Ok, Result, [], ap, arith, false, get_or, inl, inr, length, map, refl, subst, sym, take, take_all, ℕ, ◌++◌, ◌+◌, ◌<◌, ◌∙◌, ◌∷◌, ◌≡◌, ◌≤◌, ◌⊎◌}
pub use Rattle.std.proofs.Math.Logic.{∥∥₁_elim, ∥∥₁_map}
pub use Rattle.std.specs.Prelude.{IsOk, vec_capacity, vec_len}
pub use Rattle.sqlite.specs.Files.{FailsToClose, Finds, HoldsDatabase, IsBlankAs, IsOpened, file_state, image_of, over_files}
pub use Rattle.sqlite.specs.Held.{AreDatabases, Held, state}
pub use Rattle.sqlite.specs.State.{HasCleanDisk, IsLive, Opens, State}
pub use Rattle.sqlite_disk.specs.declared.Disk.{Ghosts}
pub use Rattle.sqlite_disk.specs.declared.Files.{Files}
pub use Rattle.sqlite_store.specs.declared.store.FileStore.{FileStore}
pub use Rattle.sqlite_trees.specs.Tree.{Trees}
pub use Rattle.sqlite_trees.specs.View.{IsClean, IsQuiet}
pub use Rattle.sqlite_wal.specs.Reads.{AreClean}
pub use Rattle.sqlite_wal.specs.Recovery.{Image}
pub use Rattle.desk.proofs.ResumedLemmas.{left_found, pending_after_all_fits}
pub use Rattle.desk.specs.CrashOutcomes.{AreDurablyAnswered, HoldDesk, LeavesAtMost, MayBeLeft, pending_after_all}
pub use Rattle.desk.specs.Desk.{ContinuesHistories, HoldsHistory, IsOnCleanDisk, Represents, charter_of, store_of}
pub use Rattle.desk.specs.Resumed.{FindsLeft, HoldHistory, IsAtMostOneMore, MayBeFound, MayBeLeftInEitherSchema, PendingFits, Resumes, ResumesHistories}
pub use Rattle.desk.specs.declared.desk.Desk.{Desk}
pub use Rattle.registry.specs.History.{History}
pub use Rattle.registry.specs.declared.asked.Asked.{Asked}
pub use Rattle.registry.specs.declared.charter.Charter.{Charter}
pub use Rattle.store_open.specs.Opening.{AreMoved, LeavesOldOrMoved}
pub use Rattle.store_transactions.specs.Databases.{IsDeskTrees, IsDeskWhileOpen, IsNew, IsUnused}
pub use Rattle.desk_files.specs.DeskFiles.{AreLeftFiles, AreLeftFilesInEitherSchema, AreLeftOfLegal, ContinuesFiles, FilesHoldDesk, FilesLeaveAtMost, HeldLeaves, HoldLeft, IsOpenOver, LeavesNoMore, OpensFiles, ResumesFiles, ResumesLeft, StoppedLeaves}
pub use Rattle.desk_files.specs.Lives.{HoldsLegal, LeavesLegal, LeavesLives, Lives, LivesOn, ResumesAfter, StoreLeavesAtMost}
pub use Rattle.desk_files.specs.Refused.{LeavesUnmade, RefusedDatabase, RefusedLeaves, RefusedLeavesOver, RefusesFiles, RefusesNoLeft, RefusesNoLegal, UnclosedLeaves}
pub use Rattle.desk_files.specs.declared.file.CloseFault.{CloseFault}
pub use Rattle.desk_files.specs.declared.file.OpenFault.TheVariants.{File, Path, Store}
