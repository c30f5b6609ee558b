-- What connections leave of the files of a desk.
use Rattle.cli_tasks.proofs.Vocabulary.{◌≡◌, ◌⊎◌, Bool, List, [], Option, Result, Ok, Err, IfErr, ℕ, subst, ErrorKind, over_files, Files, view, FileStore, IsClean, Image, Charter, History, HistoryFits, charter_of, HoldsHistory, IsOnCleanDisk, Represents, Desk, FilesHoldDesk, OpensFiles, ResumesFiles, UnclosedLeaves, CloseFault, FailsToCloseAfter, FailsToCloseOver, IfClosed, IfServed, IfNotOpened, IfUnclosed, IsCauseOf, IsLateCause, FilesGoOn, LeavesStore, LeavesUnclosed, ConnectionLeads, HoldServed, LeavesInTurn, AnswersInTurn, ServesInTurn, Transcript, ServeFault, Accept, Bind, Close, Open}
use Rattle.sqlite_disk.specs.declared.Disk.{Ghosts}
use Rattle.cli_tasks.proofs.HistoryLemmas.{each_leads}

-- the files hold what the desk holds
abbrev pub HoldWhatIsHeld : {D : Type 0} (g : Ghosts D) → Desk (FileStore D g) → Files D → Type 0
HoldWhatIsHeld g desk files =
    (history : History) → HoldsHistory over_files desk history → FilesHoldDesk g (charter_of desk) history files

-- so they hold the history to which connections led, where the desk has that
pub keep_led : {D : Type 0} (g : Ghosts D) (charter : Charter) (day : ℕ) (passed : List Transcript) (before after : History)
    (desk : Desk (FileStore D g)) (files : Files D) → HoldWhatIsHeld g desk files → Represents over_files charter desk after
    → (HistoryFits before → HistoryFits after) → AnswersInTurn (ConnectionLeads charter day) before passed after
    → HoldServed g charter day passed before files
keep_led g charter day passed before after desk files keeps is fits leads = record {
  after = after;
  leads = leads;
  legal = is.legal;
  fits = fits;
  kept = subst (λ held. FilesHoldDesk g held after files) is.chartered (keeps after is.rows);
}

-- the files of a desk that answered connections hold a history to which these lead
pub keep_served : {D : Type 0} (g : Ghosts D) (day : ℕ) (passed : List Transcript) (old new : Desk (FileStore D g)) (files : Files D)
    → ServesInTurn over_files day old passed new → IsOnCleanDisk over_files new → HoldWhatIsHeld g new files
    → (charter : Charter) (history : History) → Represents over_files charter old history
    → HoldServed g charter day passed history files
keep_served g day passed old new files served clean keeps charter history is =
    let (after, represents, fits, leads) = each_leads over_files charter day passed old new history served clean is in
    keep_led g charter day passed history after new files keeps represents fits leads

-- with the desk that was opened in files, what connections make of it is what they make of the files
pub keeps_files : {D : Type 0} (g : Ghosts D) (image : Image) (day : ℕ) (passed : List Transcript) (desk : Desk (FileStore D g))
    (files : Files D) → ResumesFiles image desk
    → ((charter : Charter) (history : History) → Represents over_files charter desk history
    → HoldServed g charter day passed history files)
    → FilesGoOn g image day passed files
keeps_files g image day passed desk files resumes keeps charter before pending chartered legal left =
    let (history, more, is, none) = resumes charter before pending chartered legal left in
    (history, more, keeps charter history is)

-- what holds of a desk's files, where they were closed, holds of them by what was found where it was opened
pub if_closed : {D : Type 0} {g : Ghosts D} (result : Result (Files D) (ServeFault D g)) (P Q R : Files D → Type 0)
    → ((files : Files D) → P files → Q files → R files) → IfClosed result P → IfClosed result Q → IfClosed result R
if_closed (Ok files) P Q R both p q = both files p q
if_closed (Err (Bind fault (Ok files))) P Q R both p q = both files p q
if_closed (Err (Accept (Ok files))) P Q R both p q = both files p q
if_closed _ P Q R both p q = tt

-- ---- not closed

-- a desk that answered connections and was not closed leaves at most what they lead to, and the error says why
pub not_closed : {D : Type 0} {g : Ghosts D} (day : ℕ) (passed : List Transcript) (old new : Desk (FileStore D g))
    (fault : CloseFault D g)
    → ServesInTurn over_files day old passed new ⊎ ((passed ≡ []) × (new ≡ old)) → LeavesInTurn over_files day old passed new
    → UnclosedLeaves new fault → IsClean (view fault.store)
    → FailsToCloseAfter day old passed fault × LeavesStore day old passed fault.store
not_closed day passed old new fault in_turn leaves kept clean = (
  record { last = new; answered = in_turn; cause = kept.cause clean },
  λ charter before is left.
      let (after, leads, represents, fits, asked_fit, left_after) = leaves (kept.clean clean) charter before is left in
      record {
        after = after;
        leads = leads;
        legal = represents.legal;
        fits = fits;
        asked_fit = asked_fit;
        left = kept.left charter after.history after.pending left_after;
      },
)

-- with the desk that was opened in files, what a crash leaves of it is what one leaves of the files
pub not_closed_over : {D : Type 0} {g : Ghosts D} (image : Image) (day : ℕ) (passed : List Transcript)
    (desk : Desk (FileStore D g)) (fault : CloseFault D g) → OpensFiles image desk → ResumesFiles image desk
    → FailsToCloseAfter day desk passed fault × LeavesStore day desk passed fault.store
    → FailsToCloseOver image day passed fault × LeavesUnclosed image day passed fault.store
not_closed_over image day passed desk fault opens resumes (fails, leaves) = (
  record { desk = desk; opened = opens; fails = fails },
  λ charter before pending chartered legal found.
      let (history, more, is, none) = resumes charter before pending chartered legal found in
      (history, more, leaves charter (record { history = history; pending = [] }) is none),
)

pub if_unclosed : {D : Type 0} {g : Ghosts D} (result : Result (Files D) (ServeFault D g)) (P Q R : CloseFault D g → Type 0)
    → ((closing : CloseFault D g) → P closing → Q closing → R closing) → IfUnclosed result P → IfUnclosed result Q
    → IfUnclosed result R
if_unclosed (Err (Bind fault (Err closing))) P Q R both p q = both closing p q
if_unclosed (Err (Accept (Err closing))) P Q R both p q = both closing p q
if_unclosed (Err (Close closing)) P Q R both p q = both closing p q
if_unclosed _ P Q R both p q = tt

-- ---- causes

-- the later causes are causes, and with none but them the socket was bound, and the desk opened
pub late : {D : Type 0} {g : Ghosts D} (files : Files D) (listen_error : Option ErrorKind) (not_accepted : Bool)
    (result : Result (Files D) (ServeFault D g)) (P Q : Type 0) → IfErr result (IsLateCause not_accepted) → P
    → IfErr result (IsCauseOf files listen_error not_accepted) × IfServed result P × IfNotOpened result Q
late files listen_error not_accepted (Err (Open fault)) P Q cause holds = absurd cause
late files listen_error not_accepted (Err (Bind fault closed)) P Q cause holds = absurd cause
late files listen_error not_accepted (Err (Accept closed)) P Q cause holds = (cause, holds, tt)
late files listen_error not_accepted _ P Q cause holds = (tt, holds, tt)
