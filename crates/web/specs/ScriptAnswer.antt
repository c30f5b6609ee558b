-- What a script's line is answered with, and what this leaves: a line that is no request has its malformed text,
-- another the text of the reply; a line for which an allocation failed has the text of Unavailable and changes
-- nothing.
use Rattle.std.specs.Prelude.{◌≡◌, ℕ, true, false, All, List, ◌++◌, Option, Some, None, ◌⊎◌}
use Rattle.sqlite.specs.Store.{Ghosts}
use Rattle.registry.specs.History.{History}
use Rattle.registry.specs.Values.{AskedFits, HistoryFits}
use Rattle.registry.specs.declared.charter.Charter.{Charter}
use Rattle.desk.specs.Answer.{AnswersRequest, is_accepted}
use Rattle.desk.specs.CrashOutcomes.{LeavesAlong, LeavesAtMost, pending_after}
use Rattle.desk.specs.DayAfter.{DayAfter}
use Rattle.desk.specs.Desk.{charter_of, store_of, IsOnCleanDisk, RowsStay, Represents}
use Rattle.desk.specs.Prepared.{day_of}
use Rattle.requests.specs.MalformedText.{malformed_text}
use Rattle.web.specs.ReplyText.{line_text, unavailable_text}
use Rattle.requests.specs.RequestFaults.{request_fault, too_long}
use Rattle.requests.specs.RequestText.{ReadsLine}
use Rattle.web.specs.Script.{AnswersEach, BreaksOff}
use Rattle.registry.specs.declared.asked.Asked.{Asked}
use Rattle.registry.specs.declared.asked.Request.TheVariants.{Query as QueryRequest}
use Rattle.registry.specs.declared.command.Query.TheVariants.{Payloads as PayloadsQuery}
use Rattle.desk.specs.declared.desk.Desk.{Desk}
use Rattle.desk.specs.declared.reply.Reply.{Reply}
use Rattle.desk.specs.declared.reply.Reply.TheVariants.{Unavailable}
use Rattle.requests.specs.declared.malformed.Malformed.{Malformed}

-- ---- replies

-- the reply to a request on a history, and the history that it leaves
abbrev pub RepliesOn : Charter → History → Asked → Reply → History → Type 0
RepliesOn charter before request reply after =
    AnswersRequest charter before request.day request.caller request.request reply after

-- Each history that the old desk represents goes on to one that the new desk represents, of values of their
-- types where the first was so. Nothing is said where the disk returned what was not written.
abbrev pub EachHistoryGoesOn : {S : Type 0} → Ghosts S → Desk S → Desk S → (History → History → Type 0) → Type 0
EachHistoryGoesOn g old new goes_on =
    IsOnCleanDisk g new → (before : History) → Represents g (charter_of old) old before
    → (after : History)
    × Represents g (charter_of old) new after
    × (HistoryFits before → HistoryFits after)
    × goes_on before after

-- A history, and the requests that a crash may leave applied.
pub record Standing : Type 0 where
  pub history : History
  pub pending : List Asked

-- the reply to a request on a history, and what a crash may leave applied then
abbrev pub RepliesLeaving : Charter → Standing → Asked → Reply → Standing → Type 0
RepliesLeaving charter before request reply after =
    RepliesOn charter before.history request reply after.history
    × (after.pending ≡ pending_after request reply before.pending)

-- As EachHistoryGoesOn, with what a crash may leave: where it leaves of the old desk at most the history, or that with one of
-- the pending requests, it leaves of the new desk at most the history and the requests to which these go on. The values of
-- these requests, too, are those of their types where those of the first ones were.
abbrev pub OnStandings : {S : Type 0} → Ghosts S → Desk S → Desk S → (Charter → Standing → Standing → Type 0) → Type 0
OnStandings g old new goes_on =
    IsOnCleanDisk g new → (charter : Charter) (before : Standing)
    → Represents g charter old before.history
    → LeavesAtMost g charter old before.history before.pending
    → (after : Standing)
    × goes_on charter before after
    × Represents g charter new after.history
    × (HistoryFits before.history → HistoryFits after.history)
    × (All AskedFits before.pending → All AskedFits after.pending)
    × LeavesAtMost g charter new after.history after.pending

-- The desk at a later time: its charter and the limit of its steps are the same, and a disk that returns what was
-- written did so before.
pub record IsLaterDesk {S : Type 0} (g : Ghosts S) (old new : Desk S) : Type 0 where
  pub charter : charter_of new ≡ charter_of old
  pub limit : (store_of new).connection.step_limit ≡ (store_of old).connection.step_limit
  pub clean : IsOnCleanDisk g new → IsOnCleanDisk g old

-- The reply of a desk to a request: it is that on each history that the desk represents, of which a crash leaves no
-- more than the reply allows; and one to no accepted command leaves the rows, whether they are those of a history or not.
-- The day whose VRPs the desk keeps is then what this request with this reply makes of the day that it kept before. The
-- values of the request are those of their types. Unavailable is the reply to a query for the VRPs of a day only if that
-- day could not be kept: then none is.
pub record RepliesAt {S : Type 0} (g : Ghosts S) (old : Desk S) (request : Asked) (reply : Reply) (new : Desk S) : Type 0 where
  pub fits : AskedFits request
  pub later : IsLaterDesk g old new
  pub replies : EachHistoryGoesOn g old new (λ before after. RepliesOn (charter_of old) before request reply after
      × LeavesAlong g (charter_of old) old before (pending_after request reply) new after)
  pub kept : is_accepted reply ≡ false → RowsStay g old new
  pub day : DayAfter request.day request.request reply (day_of old.kept) (day_of new.kept)
  pub unkept : request.request ≡ QueryRequest PayloadsQuery → reply ≡ Unavailable → day_of new.kept ≡ None

-- ---- answers to lines, by what `replies state request reply next` says may be replied to a request, and which state
-- that leaves

-- the line is no request, and the text says why
abbrev pub IsRefused : List ℕ → List ℕ → Type 0
IsRefused line text = (m : Malformed) × (request_fault line ≡ Some m) × (text ≡ malformed_text m)

-- the line is a request, and the text is the reply to it
abbrev pub IsReplied : {State : Type 0} → (State → Asked → Reply → State → Type 0)
    → State → List ℕ → List ℕ → State → Type 0
IsReplied replies old line text new =
    (request : Asked) × (reply : Reply)
    × ReadsLine line request
    × replies old request reply new
    × (text ≡ line_text reply)

-- the answer to a line, `None` where it is over the limit
abbrev pub AnswersLine : {State : Type 0} → (State → Asked → Reply → State → Type 0)
    → State → Option (List ℕ) → List ℕ → State → Type 0
AnswersLine replies old None text new = (text ≡ malformed_text too_long) × (new ≡ old)
AnswersLine replies old (Some line) text new =
    (IsRefused line text × (new ≡ old))
    ⊎ (IsReplied replies old line text new
    ⊎ ((text ≡ unavailable_text) × (new ≡ old)))

-- the answer of a desk to a line
abbrev pub AnswersLineAt : {S : Type 0} → Ghosts S → Desk S → Option (List ℕ) → List ℕ → Desk S → Type 0
AnswersLineAt g = AnswersLine (RepliesAt g)

-- the answer to a line on a history
abbrev pub AnswersLineOn : Charter → History → Option (List ℕ) → List ℕ → History → Type 0
AnswersLineOn charter = AnswersLine (RepliesOn charter)

-- the answer to a line on a history, and what a crash may leave applied then
abbrev pub AnswersLineLeaving : Charter → Standing → Option (List ℕ) → List ℕ → Standing → Type 0
AnswersLineLeaving charter = AnswersLine (RepliesLeaving charter)

-- the answers to the lines were written, each by the desk that the one before it left; they are those on each history
-- that the first desk represents, and a crash leaves no more than they allow
abbrev pub AnswersLines : {S : Type 0} → Ghosts S → Desk S → Desk S → List (List ℕ) → List ℕ → List ℕ → Type 0
AnswersLines g old new lines written_old written_new =
    AnswersEach (AnswersLineAt g) old new lines written_old written_new
    × EachHistoryGoesOn g old new (λ before after.
    AnswersEach (AnswersLineOn (charter_of old)) before after lines written_old written_new)
    × OnStandings g old new (λ charter before after.
    AnswersEach (AnswersLineLeaving charter) before after lines written_old written_new)

-- they were written up to within the one to some line, the last that was acted on
abbrev pub BreaksOffLines : {S : Type 0} → Ghosts S → Desk S → Desk S → List (List ℕ) → List ℕ → List ℕ → Type 0
BreaksOffLines g old new lines written_old written_new =
    BreaksOff (AnswersLineAt g) old new lines written_old written_new
    × EachHistoryGoesOn g old new (λ before after.
    BreaksOff (AnswersLineOn (charter_of old)) before after lines written_old written_new)
    × OnStandings g old new (λ charter before after.
    BreaksOff (AnswersLineLeaving charter) before after lines written_old written_new)

-- the reply to an accepted command is somewhere in the text
abbrev pub SaysAccepted : List ℕ → Type 0
SaysAccepted text =
    (before after : List ℕ) × (reply : Reply)
    × (is_accepted reply ≡ true) × (text ≡ before ++ line_text reply ++ after)
