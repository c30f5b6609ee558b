-- What the desk may reply to a request on a history, and the history that this leaves. A command is
-- accepted if and only if its rules hold for the commands accepted before it; otherwise nothing
-- changes, and the reply names the first rule that fails. What is shown, exported and judged is
-- what the history defines, and a what-if reports what the history would define after its changes.
-- If an allocation fails, or the database does not answer, the reply is Unavailable and nothing
-- changes while the desk runs; `CrashOutcomes` has what may be found after it stops.
use Rattle.std.specs.Prelude.{◌≡◌, ℕ, Bool, true, false, List, Some, None, ◌↔◌, Contains, IsSomeAnd}
use Rattle.std.specs.String.{string_bytes}
use Rattle.addr.specs.declared.route.Route.{Route}
use Rattle.addr.specs.declared.vrp.Vrp.{Vrp}
use Rattle.payload.specs.Rising.{AreRising}
use Rattle.payload.specs.declared.validity.Validity.{Validity}
use Rattle.registry.specs.Answer.{number_given, AreCounts, IsDenied, IsShown, IsListed, Leaves}
use Rattle.registry.specs.DailyVrps.{IsVrpOn}
use Rattle.registry.specs.History.{History}
use Rattle.registry.specs.HypotheticalHistory.{HypotheticalHistory, IsChangeDenied}
use Rattle.registry.specs.Values.{HistoryFits}
use Rattle.registry.specs.Verdict.{ShowVerdict, ListVerdict, IsLegal}
use Rattle.registry.specs.declared.authorization.Auth.{Auth}
use Rattle.registry.specs.declared.charter.Charter.{Charter}
use Rattle.registry.specs.declared.command.Command.{Command}
use Rattle.registry.specs.declared.command.Command.TheVariants.{Import}
use Rattle.registry.specs.declared.command.Proposed.{Proposed}
use Rattle.registry.specs.declared.command.Query.{Query}
use Rattle.registry.specs.declared.command.Query.TheVariants.{Show as ShowQuery, Content as ContentQuery, List as ListQuery, Payloads as PayloadsQuery, Validity as ValidityQuery, WhatIf as WhatIfQuery}
use Rattle.registry.specs.declared.rule.Refusal.{Refusal}
use Rattle.registry.specs.declared.rule.Refusal.TheVariants.{Denied as Refused, Memory}
use Rattle.desk.specs.ContentText.{IsContentText}
use Rattle.daily_vrps.specs.States.{states_after, states_now, HaveStates}
use Rattle.sqlite.specs.Store.{Ghosts}
use Rattle.desk.specs.Desk.{HoldsHistory}
use Rattle.desk.specs.declared.desk.Desk.{Desk}
use Rattle.registry.specs.declared.asked.Request.{Request}
use Rattle.registry.specs.declared.asked.Request.TheVariants.{Command as CommandRequest, Query as QueryRequest}
use Rattle.desk.specs.declared.reply.Reply.{Reply}
use Rattle.desk.specs.declared.reply.Reply.TheVariants.{Done, Imported, Shown, Content, Listed, Payloads, Answers as Validities, Report, Denied, Unavailable}

-- the VRPs of the day, rising
abbrev pub AreVrpsOn : History → ℕ → List Vrp → Type 0
AreVrpsOn history day vrps = AreRising vrps × ((v : Vrp) → Contains vrps v ↔ IsVrpOn history day v)

-- the state of each route over the VRPs of the day, in the order of the routes
abbrev pub AreStatesOn : History → ℕ → List Route → List Validity → Type 0
AreStatesOn history day routes states = HaveStates (IsVrpOn history day) routes states

-- the reply says that a command was accepted
abbrev pub is_accepted : Reply → Bool
is_accepted (Done number) = true
is_accepted (Imported made present) = true
is_accepted other = false

-- a request that reads and does nothing else: a query, or a command that is denied
abbrev pub only_reads : Request → Reply → Bool
only_reads (QueryRequest query) reply = true
only_reads (CommandRequest command) (Denied rule row) = true
only_reads (CommandRequest command) other = false

abbrev pub is_import : Command → Bool
is_import (Import holder rows) = true
is_import other = false

-- the reply to a request that is refused
abbrev pub refused_with : Refusal → Reply
refused_with (Refused rule row) = Denied rule row
refused_with Memory = Unavailable

-- the reply to a command, and the history after it
abbrev pub AnswersCommand : Charter → History → ℕ → List ℕ → Command → Reply → History → Type 0
AnswersCommand charter before day caller command (Done number) after =
    (is_import command ≡ false)
    × Leaves charter before day caller command after
    × (number ≡ number_given before command)
AnswersCommand charter before day caller command (Imported made present) after =
    Leaves charter before day caller command after × AreCounts before command after made present
AnswersCommand charter before day caller command (Denied rule row) after =
    IsDenied charter before day caller command rule row × (after ≡ before)
AnswersCommand charter before day caller command Unavailable after = after ≡ before
AnswersCommand charter before day caller command other after = ⊥

-- the reply to a request to show an authorization
abbrev pub AnswersShow : History → List ℕ → ℕ → List ℕ → ℕ → Reply → Type 0
AnswersShow history h day caller n (Shown x) = IsShown history h day caller n x
AnswersShow history h day caller n (Denied rule row) = ShowVerdict history h day caller n (Some rule) × (row ≡ None)
AnswersShow history h day caller n Unavailable = Unit {0}
AnswersShow history h day caller n other = ⊥

-- the reply to a request for the ROA content of an authorization: that of the terms that would be shown
abbrev pub AnswersContent : History → List ℕ → ℕ → List ℕ → ℕ → Reply → Type 0
AnswersContent history h day caller n (Content text) =
    (x : Auth) × IsShown history h day caller n x × IsContentText x (string_bytes text)
AnswersContent history h day caller n (Denied rule row) = ShowVerdict history h day caller n (Some rule) × (row ≡ None)
AnswersContent history h day caller n Unavailable = Unit {0}
AnswersContent history h day caller n other = ⊥

-- the reply to a request to list authorizations
abbrev pub AnswersList : History → List ℕ → ℕ → List ℕ → Reply → Type 0
AnswersList history h day caller (Listed xs) = IsListed history h day caller xs.items
AnswersList history h day caller (Denied rule row) = ListVerdict history h day caller (Some rule) × (row ≡ None)
AnswersList history h day caller Unavailable = Unit {0}
AnswersList history h day caller other = ⊥

-- the reply to a request for the VRPs of a day
abbrev pub AnswersPayloads : History → ℕ → Reply → Type 0
AnswersPayloads history day (Payloads vrps) = AreVrpsOn history day vrps
AnswersPayloads history day Unavailable = Unit {0}
AnswersPayloads history day other = ⊥

-- the reply to a request to judge routes
abbrev pub AnswersValidity : History → ℕ → List Route → Reply → Type 0
AnswersValidity history day routes (Validities states) = AreStatesOn history day routes states.items
AnswersValidity history day routes Unavailable = Unit {0}
AnswersValidity history day routes other = ⊥

-- The reply to a what-if: for each route its state now, and its state over the history that the
-- changes would leave. If a change would be denied, the first rule that it fails, and its place,
-- counted from 1.
abbrev pub AnswersWhatIf :
    Charter → History → ℕ → List ℕ → List ℕ → List Proposed → List Route → Reply → Type 0
AnswersWhatIf charter history day caller holder changes routes (Report states) =
    (after : History) × HypotheticalHistory charter day caller holder history changes after
    × AreStatesOn history day routes (states_now states.items)
    × AreStatesOn after day routes (states_after states.items)
AnswersWhatIf charter history day caller holder changes routes (Denied rule row) =
    IsSomeAnd row (λ place. IsChangeDenied charter day caller holder history changes rule place)
AnswersWhatIf charter history day caller holder changes routes Unavailable = Unit {0}
AnswersWhatIf charter history day caller holder changes routes other = ⊥

abbrev pub AnswersQuery : Charter → History → ℕ → List ℕ → Query → Reply → Type 0
AnswersQuery charter history day caller (ShowQuery h n) reply = AnswersShow history h day caller n reply
AnswersQuery charter history day caller (ContentQuery h n) reply = AnswersContent history h day caller n reply
AnswersQuery charter history day caller (ListQuery h) reply = AnswersList history h day caller reply
AnswersQuery charter history day caller PayloadsQuery reply = AnswersPayloads history day reply
AnswersQuery charter history day caller (ValidityQuery routes) reply = AnswersValidity history day routes.items reply
AnswersQuery charter history day caller (WhatIfQuery h changes routes) reply =
    AnswersWhatIf charter history day caller h changes.items routes.items reply

abbrev pub AnswersRequest : Charter → History → ℕ → List ℕ → Request → Reply → History → Type 0
AnswersRequest charter before day caller (CommandRequest command) reply after =
    AnswersCommand charter before day caller command reply after
AnswersRequest charter before day caller (QueryRequest query) reply after =
    AnswersQuery charter before day caller query reply × (after ≡ before)

-- a request was answered: the tables hold the rows of the history that the answer leaves, which is legal
-- and, where it was so before, of values of their types
pub record IsAnswered {S : Type 0} (g : Ghosts S) (charter : Charter) (before : History)
    (day : ℕ) (caller : List ℕ) (request : Request) (reply : Reply) (desk : Desk S) : Type 0 where
  pub after : History
  pub legal : IsLegal charter after
  pub values : HistoryFits before → HistoryFits after
  pub answers : AnswersRequest charter before day caller request reply after
  pub rows_after : HoldsHistory g desk after
