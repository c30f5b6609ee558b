-- The histories that connections lead to, what a crash leaves of them, and the files that hold them.
use Rattle.std.specs.Prelude.{◌≡◌, ◌⊎◌, ℕ, List}
use Rattle.std.specs.Result.{result_err}
use Rattle.sqlite.specs.Store.{Ghosts as StoreGhosts}
use Rattle.sqlite_disk.specs.declared.Disk.{Ghosts}
use Rattle.sqlite_disk.specs.declared.Files.{Files}
use Rattle.registry.specs.declared.charter.Charter.{Charter}
use Rattle.registry.specs.History.{History}
use Rattle.registry.specs.Values.{HistoryFits}
use Rattle.registry.specs.Verdict.{IsLegal}
use Rattle.registry.specs.declared.asked.Asked.{Asked}
use Rattle.desk.specs.declared.desk.Desk.{Desk}
use Rattle.desk.specs.declared.reply.Reply.{Reply}
use Rattle.requests.specs.HttpRequests.{HttpRequest, NeedsMemory, ReadsHttp}
use Rattle.web.specs.HttpAnswers.{AnswersHttpBy, StaysUnsentBy}
use Rattle.web.specs.HttpResponses.{unavailable_response}
use Rattle.web.specs.ScriptAnswer.{OnStandings, RepliesLeaving, RepliesOn, Standing}
use Rattle.desk_files.specs.DeskFiles.{FilesHoldDesk}
use Rattle.cli_tasks.specs.Serving.{AnswersInTurn, EndsWith, Transcript}

-- the response to bytes that were read on a day, by what may be replied to a request; where an allocation failed, it
-- says so and the state stays, whether the request was not known or what was replied to it stays unsent
abbrev pub RespondsBy : {State : Type 0} → (State → Asked → Reply → State → Type 0) → ℕ → State → List ℕ → List ℕ → State → Type 0
RespondsBy replies day old bytes text new =
    ((request : HttpRequest) × ReadsHttp day bytes request × AnswersHttpBy replies old request text new)
    ⊎ ((NeedsMemory bytes ⊎ StaysUnsentBy replies day old bytes new) × (text ≡ unavailable_response) × (new ≡ old))

-- what a connection on a day makes of a history, by the bytes that passed on it
abbrev pub ConnectionLeads : Charter → ℕ → History → Transcript → History → Type 0
ConnectionLeads charter day before passed after =
    EndsWith (RespondsBy (RepliesOn charter) day) before passed (result_err passed.ended) after

-- and of the requests that a crash may leave applied
abbrev pub ConnectionLeaves : Charter → ℕ → Standing → Transcript → Standing → Type 0
ConnectionLeaves charter day before passed after =
    EndsWith (RespondsBy (RepliesLeaving charter) day) before passed (result_err passed.ended) after

-- after connections on the day a crash leaves of the desk no more than they allow
abbrev pub LeavesInTurn : {S : Type 0} → StoreGhosts S → ℕ → Desk S → List Transcript → Desk S → Type 0
LeavesInTurn g day old passed new =
    OnStandings g old new (λ charter before after. AnswersInTurn (ConnectionLeaves charter day) before passed after)

-- The files hold a desk of the charter and of a legal history to which these connections on the day lead, one after the
-- other, of values of their types where the history before was so.
pub record HoldServed {D : Type 0} (g : Ghosts D) (charter : Charter) (day : ℕ) (passed : List Transcript) (before : History) (files : Files D) : Type 0 where
  pub after : History
  pub leads : AnswersInTurn (ConnectionLeads charter day) before passed after
  pub legal : IsLegal charter after
  pub fits : HistoryFits before → HistoryFits after
  pub kept : FilesHoldDesk g charter after files
