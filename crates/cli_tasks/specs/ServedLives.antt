-- The lives of `serve` on files whose disk may crash: a crash before each, its connections, and a close or a stop after
-- them.
use Rattle.std.specs.Prelude.{◌≡◌, ◌⊎◌, ◌≤◌, ℕ, Bool, true, false, All, List, [], ◌∷◌, ◌++◌, IsTrue, Result, Ok, Err, length, take, ⊤}
use Rattle.std.specs.List.{AllByRecursion}
use Rattle.sqlite.specs.Files.{IsCleanLeft, image_of, over_files}
use Rattle.sqlite.specs.declared.file.Leftover.TheVariants as left
use Rattle.sqlite_disk.specs.declared.Disk.{Ghosts}
use Rattle.sqlite_disk.specs.declared.Files.{Files}
use Rattle.sqlite_store.specs.FileStore.{view}
use Rattle.sqlite_trees.specs.Tree.{Trees}
use Rattle.sqlite_trees.specs.View.{IsClean}
use Rattle.sqlite_wal.specs.Reads.{AreClean}
use Rattle.addr.specs.Name.{is_name}
use Rattle.registry.specs.CharterSets.{IsCharter}
use Rattle.registry.specs.declared.charter.Charter.{Charter}
use Rattle.registry.specs.History.{History}
use Rattle.registry.specs.Values.{AskedFits, HistoryFits}
use Rattle.registry.specs.Verdict.{IsLegal}
use Rattle.registry.specs.declared.asked.Asked.{Asked}
use Rattle.store_transactions.specs.declared.fault.StoreFault.TheVariants.{Schema}
use Rattle.desk.specs.Resumed.{IsAtMostOneMore, MayBeLeftInEitherSchema}
use Rattle.desk_files.specs.DeskFiles.{FilesLeaveAtMost}
use Rattle.desk_files.specs.Lives.{StoreLeavesAtMost}
use Rattle.desk_files.specs.Refused.{RefusedLeaves, RefusesFiles, RefusesNoLegal}
use Rattle.desk_files.specs.declared.file.CloseFault.{CloseFault}
use Rattle.desk_files.specs.declared.file.OpenFault.{OpenFault}
use Rattle.desk_files.specs.declared.file.OpenFault.TheVariants.{File, Path, Store}
use Rattle.web.specs.ScriptAnswer.{Standing}
use Rattle.cli_tasks.specs.ServedFiles.{FailsToCloseOver, LeavesServed, LeavesUnclosed}
use Rattle.cli_tasks.specs.ServedHistories.{ConnectionLeads, ConnectionLeaves}
use Rattle.cli_tasks.specs.Serving.{AnswersInTurn, Transcript}
use Rattle.cli_tasks.specs.declared.lives.Life.{Life}
use Rattle.cli_tasks.specs.declared.lives.LifeFault.{LifeFault}
use Rattle.cli_tasks.specs.declared.lives.LifeFault.TheVariants as ended
use Rattle.cli_tasks.specs.declared.serve_desk.ServeFault.{ServeFault}
use Rattle.cli_tasks.specs.declared.serve_desk.ServeFault.TheVariants.{Accept, Bind, Close, Open}

-- the values of the history and of what is pending are those of their types
abbrev pub StandingFits : Standing → Type 0
StandingFits standing = HistoryFits standing.history × All AskedFits standing.pending

-- What a life with these connections on a day makes of a history with no request pending. If it ended with a close,
-- nothing is pending then. If the process just ended, it is what was pending after the connections.
abbrev pub LifeLeads : Bool → Charter → ℕ → History → List Transcript → Standing → Type 0
LifeLeads true charter day history passed after =
    AnswersInTurn (ConnectionLeads charter day) history passed after.history × (after.pending ≡ [])
LifeLeads false charter day history passed after =
    AnswersInTurn (ConnectionLeaves charter day) (record { history = history; pending = [] }) passed after

-- How many connections a life had that ended well: all of its count, unless its socket was not bound, or one could not be
-- accepted.
abbrev pub HasLifeCount : ℕ → ℕ → Bool → Bool → Type 0
HasLifeCount passed count cannot_listen has_failed =
    (passed ≡ count) ⊎ (cannot_listen ≡ true) ⊎ (has_failed ≡ true)

-- From files of which a crash leaves at most a legal history with requests pending, to files of which one leaves at most
-- that to which a life leads: from that history, or from it with one of the requests.
abbrev pub ServesLife : {D : Type 0} → Ghosts D → Bool → ℕ → Files D → List Transcript → Files D → Type 0
ServesLife g is_closed day old passed new =
    (charter : Charter) (before : Standing)
    → IsCharter charter → IsLegal charter before.history
    → FilesLeaveAtMost g charter old before.history before.pending
    → ∥ ((history : History) × IsAtMostOneMore charter before.history before.pending history
    × (after : Standing) × LifeLeads is_closed charter day history passed after
    × IsLegal charter after.history
    × (HistoryFits history → StandingFits after)
    × FilesLeaveAtMost g charter new after.history after.pending) ∥₁

-- Each life begins with the history that the one before it left, or with that and one of the requests that were then
-- pending, and has at most its count of connections.
abbrev pub LivesLead : Charter → Standing → List Life → List (List Transcript) → Standing → Type 0
LivesLead charter before [] [] after = after ≡ before
LivesLead charter before [] (passed ∷ served) after = ⊥
LivesLead charter before (life ∷ lives) [] after = ⊥
LivesLead charter before (life ∷ lives) (passed ∷ served) after =
    (history : History) × (next : Standing)
    × IsAtMostOneMore charter before.history before.pending history
    × (length passed ≤ life.count)
    × LifeLeads life.is_closed charter life.day history passed next
    × LivesLead charter next lives served after

-- From files of which a crash leaves at most a legal history with requests pending, these lives lead, one after the
-- other, to a legal one, and what is left allows that one with what is then pending.
abbrev pub LivesAllow : {D : Type 0} → Ghosts D → List Life → Files D → List (List Transcript)
    → (Charter → History → List Asked → Type 0) → Type 0
LivesAllow g lives old served Allows =
    (charter : Charter) (before : Standing)
    → IsCharter charter → IsLegal charter before.history
    → FilesLeaveAtMost g charter old before.history before.pending
    → ∥ ((after : Standing) × LivesLead charter before lives served after
    × IsLegal charter after.history
    × (StandingFits before → StandingFits after)
    × Allows charter after.history after.pending) ∥₁

-- they lead so to files of which a crash leaves at most that history
abbrev pub ServesLives : {D : Type 0} → Ghosts D → List Life → Files D → List (List Transcript) → Files D → Type 0
ServesLives g lives old served new = LivesAllow g lives old served (λ charter. FilesLeaveAtMost g charter new)

-- ---- a refused opening

-- A crash of the files leaves at most a legal history with requests pending, of values of their types. The operators of
-- the charter have names.
pub record LeaveFitting {D : Type 0} (g : Ghosts D) (files : Files D) : Type 0 where
  pub charter : Charter
  pub before : Standing
  pub chartered : IsCharter charter
  pub named : AllByRecursion (λ name. IsTrue (is_name name)) charter.operators
  pub legal : IsLegal charter before.history
  pub fits : StandingFits before
  pub left : FilesLeaveAtMost g charter files before.history before.pending

-- What is left where the files that these lives left were not opened, and the disk returned what was written: files of
-- which a crash leaves at most that to which the lives lead, or a store that recovers no more than that. Of files that
-- were being recovered there is only what SQLite leaves. The database that the lives left is not of another schema.
abbrev pub LeavesRefused : {D : Type 0} (g : Ghosts D) → List Life → Files D → List (List Transcript) → Files D → OpenFault D g → Type 0
LeavesRefused g lives old served found (Path fault) = ⊥
LeavesRefused g lives old served found (File fault (left.Files now)) =
    AreClean g found.log found.db → AreClean g now.log now.db → ServesLives g lives old served now
LeavesRefused g lives old served found (File fault (left.Unopened now)) = ⊤
LeavesRefused g lives old served found (File fault (left.Store now)) =
    AreClean g found.log found.db → IsCleanLeft {g = g} (left.Store now)
    → LivesAllow g lives old served (λ charter history pending.
    (trees : Trees) → over_files.recovers now trees → MayBeLeftInEitherSchema charter history pending trees)
LeavesRefused g lives old served found (Store fault now) =
    AreClean g now.log now.db
    → ServesLives g lives old served now × (fault ≡ Schema → ¬ LeaveFitting g old)

-- ---- the life that ends them

-- The end of a life that is to close its files. It is a good one if they were closed, even if the socket was not bound or
-- a connection could not be accepted.
abbrev pub end_of_close : {D : Type 0} {g : Ghosts D} → Result (Files D) (CloseFault D g) → Result (Files D) (LifeFault D g)
end_of_close (Ok files) = Ok files
end_of_close (Err fault) = Err (ended.Close fault)

abbrev pub end_of_serve : {D : Type 0} {g : Ghosts D} → Result (Files D) (ServeFault D g) → Result (Files D) (LifeFault D g)
end_of_serve (Ok files) = Ok files
end_of_serve (Err (Open fault)) = Err (ended.Open fault)
end_of_serve (Err (Bind fault closed)) = end_of_close closed
end_of_serve (Err (Accept closed)) = end_of_close closed
end_of_serve (Err (Close fault)) = Err (ended.Close fault)

-- Why a life is the last one. Either its opening was refused, and it had no connection. Or its files were not closed,
-- for the cause that the error states, and a crash of the store leaves at most that to which its connections lead.
abbrev pub EndsLife : {D : Type 0} (g : Ghosts D) → ℕ → Files D → List Transcript → LifeFault D g → Type 0
EndsLife g day found passed (ended.Open fault) =
    (passed ≡ []) × RefusesFiles (image_of g found) fault × RefusesNoLegal found fault × RefusedLeaves found fault
EndsLife g day found passed (ended.Close fault) =
    IsClean (view fault.store)
    → AreClean g found.log found.db
    × FailsToCloseOver (image_of g found) day passed fault
    × LeavesUnclosed (image_of g found) day passed fault.store

-- What is left then by it and the lives before it.
abbrev pub LeavesEnded : {D : Type 0} (g : Ghosts D) → List Life → Files D → List (List Transcript) → ℕ → Files D → List Transcript → LifeFault D g → Type 0
LeavesEnded g before old whole day found passed (ended.Open fault) = LeavesRefused g before old whole found fault
LeavesEnded g before old whole day found passed (ended.Close fault) =
    IsClean (view fault.store)
    → LivesAllow g before old whole (λ charter history pending.
    (next : History) × IsAtMostOneMore charter history pending next
    × LeavesServed charter day passed (record { history = next; pending = [] }) (StoreLeavesAtMost over_files charter fault.store))

-- The lives ended with one that did not end well, after those that did. The files that it found are those that these left,
-- after a crash, and it is for them that the fault has its cause.
pub record EndsLives {D : Type 0} (g : Ghosts D) (lives : List Life) (old : Files D) (served : List (List Transcript))
    (fault : LifeFault D g) : Type 0 where
  pub whole : List (List Transcript)
  pub passed : List Transcript
  pub all : served ≡ whole ++ passed ∷ []
  pub life : Life
  pub reached : take (length served) lives ≡ take (length whole) lives ++ life ∷ []
  pub few : length passed ≤ life.count
  pub found : Files D
  pub clean : AreClean g found.log found.db → AreClean g old.log old.db
  pub led : AreClean g found.log found.db → ServesLives g (take (length whole) lives) old whole found
  pub ends : EndsLife g life.day found passed fault
  pub left : LeavesEnded g (take (length whole) lives) old whole life.day found passed fault
