-- How the code answers an HTTP request: first it is read, and then it is acted on and the response written.
use Rattle.std.specs.Prelude.{◌≡◌, ◌⊎◌, ◌≤◌, ◌^◌, ℕ, List, length, None}
use Rattle.sqlite.specs.Store.{Ghosts}
use Rattle.http_messages.specs.declared.response.ContentType.{ContentType}
use Rattle.registry.specs.declared.asked.Asked.{Asked as AskedRequest}
use Rattle.desk.specs.declared.desk.Desk.{Desk}
use Rattle.desk.specs.declared.reply.Reply.{Reply}
use Rattle.desk.specs.declared.reply.Reply.TheVariants.{Payloads}
use Rattle.daily_vrps.specs.CsvLength.{csv_of}
use Rattle.payload.specs.VrpSet as set
use Rattle.requests.specs.HttpRequests.{asked, malformed, NeedsMemory, ReadsHttp, refused}
use Rattle.web.specs.HttpAnswers.{AnswersHttp, AllStays, RepliesUnsentBy}
use Rattle.web.specs.HttpResponses.{reply_response, unavailable_response}
use Rattle.web.specs.ReplyText.{short_text}
use Rattle.web.specs.ScriptAnswer.{RepliesAt}
use Rattle.web.specs.declared.http.Extent.{Extent}
use Rattle.web.specs.declared.http.Extent.TheVariants.{Part, Whole}
use Rattle.web.specs.declared.http.reading.Next.{Next}
use Rattle.web.specs.declared.http.reading.Next.TheVariants.{Asked, Malformed, NotRead, Refused}

-- what was read is what the bytes ask for, or an allocation failed where reading on takes one
abbrev pub ReadsNext : ℕ → List ℕ → Next → Type 0
ReadsNext day bytes (Refused refusal) = ReadsHttp day bytes (refused refusal)
ReadsNext day bytes (Malformed fault) = ReadsHttp day bytes (malformed fault)
ReadsNext day bytes (Asked form request) = ReadsHttp day bytes (asked form request)
ReadsNext day bytes NotRead = NeedsMemory bytes

-- how much of a request was read for it
abbrev pub extent_of : Next → Extent
extent_of (Refused refusal) = Part
extent_of (Malformed fault) = Whole
extent_of (Asked form request) = Whole
extent_of NotRead = Part

-- the response says Unavailable, since the reply stays unsent; the request has changed at most which day is kept
abbrev pub AnswersUnavailable : {S : Type 0} → Ghosts S → Desk S → AskedRequest → List ℕ → Desk S → Type 0
AnswersUnavailable g old request text new =
    (text ≡ unavailable_response) × AllStays g old new × RepliesUnsentBy (RepliesAt g) old request new

-- the response to what was read
abbrev pub AnswersNext : {S : Type 0} → Ghosts S → Desk S → Next → List ℕ → Desk S → Type 0
AnswersNext g old (Refused refusal) text new = AnswersHttp g old (refused refusal) text new
AnswersNext g old (Malformed fault) text new = AnswersHttp g old (malformed fault) text new
AnswersNext g old (Asked form request) text new =
    AnswersHttp g old (asked form request) text new ⊎ AnswersUnavailable g old request text new
AnswersNext g old NotRead text new = (text ≡ unavailable_response) × (new ≡ old)

-- the response to a reply, or Unavailable for this cause
abbrev pub IsResponseUnless : Type 0 → ContentType → Reply → List ℕ → Type 0
IsResponseUnless Cause form reply text = (text ≡ reply_response form reply) ⊎ (Cause × (text ≡ unavailable_response))

-- the response to a reply; only one that shows something allocates
abbrev pub IsReplyResponse : ContentType → Reply → List ℕ → Type 0
IsReplyResponse form reply = IsResponseUnless (short_text reply ≡ None) form reply

-- the response that has these VRPs, unless the head cannot give the length of their text
abbrev pub IsVrpsResponse : ContentType → set.VrpSet → List ℕ → Type 0
IsVrpsResponse form vrps = IsResponseUnless (2 ^ 64 ≤ length (csv_of vrps)) form (Payloads (set.items vrps))
