-- What a desk answers to an HTTP request, and the history that this leaves.
use Rattle.std.specs.Prelude.{◌≡◌, ◌⊎◌, ℕ, List}
use Rattle.sqlite.specs.Store.{Ghosts}
use Rattle.http_messages.specs.declared.response.ContentType.{ContentType}
use Rattle.registry.specs.declared.asked.Asked.{Asked}
use Rattle.desk.specs.CrashOutcomes.{LeavesAlong}
use Rattle.desk.specs.Desk.{charter_of, RowsStay}
use Rattle.desk.specs.declared.desk.Desk.{Desk}
use Rattle.desk.specs.declared.reply.Reply.{Reply}
use Rattle.requests.specs.HttpRequests.{asked, HttpRequest, malformed, NeedsMemory, ReadsHttp, refused}
use Rattle.web.specs.HttpResponses.{malformed_response, MayStayUnsent, refusal_response, reply_response, unavailable_response}
use Rattle.web.specs.ScriptAnswer.{EachHistoryGoesOn, RepliesAt}

-- the rows of the tables stay, and each history that the desk represents, of which a crash leaves no more than before
abbrev pub AllStays : {S : Type 0} → Ghosts S → Desk S → Desk S → Type 0
AllStays g old new =
    RowsStay g old new
    × EachHistoryGoesOn g old new (λ before after. (after ≡ before)
    × LeavesAlong g (charter_of old) old before (λ pending. pending) new after)

-- The response to the request that the bytes are, a list in the form that it asks for, by what `replies state request
-- reply next` says may be replied to a request, and which state that leaves. What is refused or malformed leaves the
-- state.
abbrev pub AnswersHttpBy : {State : Type 0} → (State → Asked → Reply → State → Type 0)
    → State → HttpRequest → List ℕ → State → Type 0
AnswersHttpBy replies old (refused refusal) text new = (text ≡ refusal_response refusal) × (new ≡ old)
AnswersHttpBy replies old (malformed fault) text new = (text ≡ malformed_response fault) × (new ≡ old)
AnswersHttpBy replies old (asked form request) text new =
    (reply : Reply) × (text ≡ reply_response form reply) × replies old request reply new

-- the response of a desk to a request
abbrev pub AnswersHttp : {S : Type 0} → Ghosts S → Desk S → HttpRequest → List ℕ → Desk S → Type 0
AnswersHttp g = AnswersHttpBy (RepliesAt g)

-- a reply to the request is one that may stay unsent, and leaves the state
abbrev pub RepliesUnsentBy : {State : Type 0} → (State → Asked → Reply → State → Type 0)
    → State → Asked → State → Type 0
RepliesUnsentBy replies old request new =
    (reply : Reply) × MayStayUnsent request.request reply × replies old request reply new

-- the bytes are a request without a fault, and the reply to it one that may stay unsent
abbrev pub StaysUnsentBy : {State : Type 0} → (State → Asked → Reply → State → Type 0)
    → ℕ → State → List ℕ → State → Type 0
StaysUnsentBy replies day old bytes new =
    (form : ContentType) × (request : Asked)
    × ReadsHttp day bytes (asked form request) × RepliesUnsentBy replies old request new

-- The response of a desk to the bytes that were read, on a day. Where an allocation failed, the response says so, and
-- rows and histories stay. It failed before the request was known: then the desk was not asked, and nothing changed. Or
-- what the desk replied to a request without a fault stays unsent: then only the day that is kept may change, to the one
-- that this request with this reply leaves. What is refused by its head, or malformed without a body, never has this
-- response.
abbrev pub RespondsTo : {S : Type 0} → Ghosts S → Desk S → ℕ → List ℕ → List ℕ → Desk S → Type 0
RespondsTo g old day bytes text new =
    ((request : HttpRequest) × ReadsHttp day bytes request × AnswersHttp g old request text new)
    ⊎ (((NeedsMemory bytes × (new ≡ old)) ⊎ StaysUnsentBy (RepliesAt g) day old bytes new)
    × (text ≡ unavailable_response) × AllStays g old new)
