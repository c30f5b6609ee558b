-- The names of the logic, of other crates and of the definitions that the proofs use, in one place.
pub use Rattle.std.proofs.Common.{Bool, Err, IfErr, IfOk, List, None, Ok, OnErr, OnOk, Option, Result, Some, [], ap, append_assoc, arith, false, get_or, inl, inr, length, length-append, refl, subst, suc, sym, take, take_all, true, ℕ, ◌++◌, ◌+◌, ◌-◌, ◌<◌, ◌∙◌, ◌∷◌, ◌≡◌, ◌≤◌, ◌⊎◌}
pub use Rattle.std.proofs.lemmas.List.{append-nil, flat_map_more, take_more}
pub use Rattle.std.proofs.lemmas.Result.{IfErr-weaker, IfOk-weaker}
pub use Rattle.std.specs.Io.KnownBytes.{Appends, Consumes, prepend_known}
pub use Rattle.std.specs.List.{flat_map}
pub use Rattle.std.specs.Result.{result_err}
pub use Rattle.std.specs.declared.io.ErrorKind.{ErrorKind}
pub use Rattle.sqlite.specs.Files.{image_of, over_files}
pub use Rattle.sqlite.specs.Store.{Ghosts}
pub use Rattle.sqlite_disk.specs.declared.Files.{Files}
pub use Rattle.sqlite_store.specs.FileStore.{view}
pub use Rattle.sqlite_store.specs.declared.store.FileStore.{FileStore}
pub use Rattle.sqlite_trees.specs.View.{IsClean}
pub use Rattle.sqlite_wal.specs.Reads.{AreClean}
pub use Rattle.sqlite_wal.specs.Recovery.{Image}
pub use Rattle.desk.specs.Desk.{HoldsHistory, IsOnCleanDisk, Represents, charter_of}
pub use Rattle.desk.specs.declared.desk.Desk.{Desk}
pub use Rattle.desk_files.specs.DeskFiles.{FilesHoldDesk, FilesLeaveAtMost, LeavesFiles, OpensFiles, ResumesFiles, ResumesLeft}
pub use Rattle.desk_files.specs.Refused.{RefusedLeaves, RefusesNoLegal, UnclosedLeaves}
pub use Rattle.desk_files.specs.declared.file.CloseFault.{CloseFault}
pub use Rattle.http_messages.specs.Input.{Gives, HasNoMore}
pub use Rattle.registry.specs.History.{History}
pub use Rattle.registry.specs.Values.{AskedFits, HistoryFits}
pub use Rattle.registry.specs.declared.asked.Asked.{Asked}
pub use Rattle.registry.specs.declared.charter.Charter.{Charter}
pub use Rattle.requests.specs.HttpRequests.{HttpRequest, IsCutShort, ReadsHttp, asked, malformed, refused}
pub use Rattle.web.specs.HttpAnswers.{AnswersHttp, RespondsTo}
pub use Rattle.web.specs.ScriptAnswer.{IsLaterDesk, RepliesAt, RepliesLeaving, RepliesOn, Standing}
pub use Rattle.web.specs.declared.http.WebFault.{WebFault}
pub use Rattle.web.specs.declared.http.WebFault.TheVariants.{Read, Write}
pub use Rattle.cli_tasks.specs.Connections.{Accepts, Logs}
pub use Rattle.cli_tasks.specs.ServedFiles.{FailsToCloseAfter, FailsToCloseOver, FilesGoOn, IfClosed, IfNotOpened, IfServed, IfUnclosed, IsCauseOf, IsLateCause, IsServedCount, LeavesStore, LeavesUnclosed}
pub use Rattle.cli_tasks.specs.ServedHistories.{ConnectionLeads, HoldServed, LeavesInTurn, RespondsBy}
pub use Rattle.cli_tasks.specs.ServedLives.{EndsLife, EndsLives, HasLifeCount, LeavesEnded, LeavesRefused, LifeLeads, LivesAllow, LivesLead, ServesLife, ServesLives, end_of_close, end_of_serve}
pub use Rattle.cli_tasks.specs.Serving.{AnswersInTurn, AnswersReady, EndsWith, IsReadied, ReadiesAgain, Serves, ServesInTurn, TellsReady, Transcript, fault_lines, line_for}
pub use Rattle.cli_tasks.specs.declared.serve_desk.ServeFault.{ServeFault}
pub use Rattle.cli_tasks.specs.declared.serve_desk.ServeFault.TheVariants.{Accept, Bind, Close, Open}
