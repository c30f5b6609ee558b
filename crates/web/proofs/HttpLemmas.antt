-- The answers to HTTP requests and the responses that give them.
use Rattle.web.proofs.Vocabulary.{◌≡◌, ℕ, Bool, true, false, List, [], ◌∷◌, length, ◌++◌, codes, Option, Some, None, Result, Ok, Err, refl, ap, subst, ◌∙◌, append_assoc, get_or, inl, inr, is_some, sym, true≢false, option_copied, Bor, append-nil, append_cancel_left, IfSome, OnErr, OnOk, Ghosts, History, Charter, Head, SaysHead, AnswersRequest, is_accepted, charter_of, RowsStay, Asked, LeavesAtMost, pending_after, Desk, Reply, Done, Imported, Denied, Unavailable, HasErrorStatus, json_response, MayStayUnsent, reply_response, reply_status, short_text, RepliesAt, AnswersNext, extent_of, IsResponseUnless, ReadsNext}
use Rattle.std.specs.Fmt.{digits}
use Rattle.std.proofs.lemmas.Option.{same_Some}
use Rattle.http_messages.specs.declared.head.TheConstants.{HEAD_LIMIT}
use Rattle.http_messages.specs.HeadEnd.{IsWholeHead}
use Rattle.http_messages.specs.Input.{Gives}
use Rattle.http_messages.specs.ResponseText.{response_head, status_line}
use Rattle.http_messages.specs.declared.response.ContentType.{ContentType}
use Rattle.http_messages.specs.declared.status.Status.TheVariants.{Done as DoneStatus, Forbidden, ServiceUnavailable}
use Rattle.registry.specs.declared.asked.Request.{Request}
use Rattle.registry.specs.declared.asked.Request.TheVariants.{Command as CommandRequest, Query as QueryRequest}
use Rattle.registry.specs.declared.command.Query.TheVariants.{Payloads as PayloadsQuery}
use Rattle.web.specs.HttpAnswers.{AllStays, RespondsTo}
use Rattle.requests.specs.Actions.{takes_body}
use Rattle.requests.specs.HttpRequests.{asked, IsMessage, malformed, NeedsMemory, refused}
use Rattle.requests.proofs.HeadLemmas.{says-length}
use Rattle.web.specs.RequestExtent.{HasExtent}
use Rattle.web.specs.declared.http.reading.Next.{Next}
use Rattle.web.specs.declared.http.reading.Next.TheVariants.{Asked as AskedNext, Malformed, NotRead, Refused}

-- a text of which this holds, of which a call that failed wrote a beginning
pub text-err : {T E : Type 0} (r : Result T E) (P Q : List ℕ → Type 0) (text : List ℕ)
    → P text → OnErr r (Q text) → OnErr r ((x : List ℕ) × P x × Q x)
text-err (Ok x) P Q text holds written = tt
text-err (Err e) P Q text holds written = (text, holds, written)

-- a reply's text, where it has a bound: the body of its response
pub short-response : (form : ContentType) (reply : Reply) (text : List ℕ) → Some text ≡ short_text reply
    → json_response (reply_status reply) text ≡ reply_response form reply
short-response form (Done number) text is = ap (json_response DoneStatus) (same_Some text _ is)
short-response form (Imported made present) text is = ap (json_response DoneStatus) (same_Some text _ is)
short-response form (Denied rule row) text is = ap (json_response Forbidden) (same_Some text _ is)
short-response form Unavailable text is = ap (json_response ServiceUnavailable) (same_Some text _ is)
short-response form other text is = cc

-- one that shows something has this status
pub long-status : (reply : Reply) → short_text reply ≡ None → reply_status reply ≡ DoneStatus
long-status (Denied rule row) long = cc
long-status Unavailable long = cc
long-status other long = refl

-- ---- bytes

pub gives-more : (before between after head rest : List ℕ) → Gives head before between → Gives rest between after
    → Gives (head ++ rest) before after
gives-more before between after head rest given given_rest =
    given_rest ∙ ap (λ u. u ++ rest) given ∙ append_assoc before head rest

-- where nothing more was given, these are no bytes
given-none : (bytes before after : List ℕ) → Gives bytes before after → after ≡ before → bytes ≡ []
given-none bytes before after given same =
    append_cancel_left before bytes [] (sym given ∙ same ∙ sym (append-nil before))

some-given : (b : ℕ) (bytes before after : List ℕ) → Gives (b ∷ bytes) before after → after ≡ before → ⊥
some-given b bytes before after given same = let none = given-none (b ∷ bytes) before after given same in cc

-- a whole head, and whatever comes after it, is some bytes
pub head-given : (head rest before after : List ℕ) → IsWholeHead head → Gives (head ++ rest) before after → after ≡ before → ⊥
head-given [] rest before after whole given same = let ends = whole.ends in cc
head-given (b ∷ head) rest before after whole given same = some-given b (head ++ rest) before after given same

pub whole-given : (head before after : List ℕ) → IsWholeHead head → Gives head before after → after ≡ before → ⊥
whole-given [] before after whole given same = let ends = whole.ends in cc
whole-given (b ∷ head) before after whole given same = some-given b head before after given same

-- so are as many as a head may have
pub limit-given : (bytes before after : List ℕ) → length bytes ≡ HEAD_LIMIT → Gives bytes before after → after ≡ before → ⊥
limit-given [] before after full given same = cc
limit-given (b ∷ bytes) before after full given same = some-given b bytes before after given same

-- and a head with what was read on from it
pub next-given : {A : Type 0} (next : Option A) (P : A → List ℕ → Type 0) (head before between after : List ℕ)
    → IsWholeHead head → Gives head before between
    → IfSome next (λ x. (rest : List ℕ) × Gives rest between after × P x rest)
    → IfSome next (λ _. after ≡ before → ⊥)
next-given None P head before between after whole given some = tt
next-given (Some x) P head before between after whole given (rest, given_rest, _) =
    head-given head rest before after whole (gives-more before between after head rest given given_rest)

-- ---- desks

-- only a query is answered with what it shows, and a query changes nothing
pub long-keeps : (charter : Charter) (before after : History) (day : ℕ) (caller : List ℕ) (request : Request) (reply : Reply)
    → AnswersRequest charter before day caller request reply after → short_text reply ≡ None → after ≡ before
long-keeps charter before after day caller (QueryRequest query) reply answers long = answers.1
long-keeps charter before after day caller (CommandRequest command) (Done number) answers long = cc
long-keeps charter before after day caller (CommandRequest command) (Imported made present) answers long = cc
long-keeps charter before after day caller (CommandRequest command) (Denied rule row) answers long = cc
long-keeps charter before after day caller (CommandRequest command) Unavailable answers long = answers
long-keeps charter before after day caller (CommandRequest command) other answers long = absurd answers

-- only a reply that shows nothing is of an accepted command
shown-unaccepted : (reply : Reply) → short_text reply ≡ None → is_accepted reply ≡ false
shown-unaccepted (Done number) long = cc
shown-unaccepted (Imported made present) long = cc
shown-unaccepted other long = refl

-- and only one that shows nothing makes a request pending
pub shown-pending : (request : Asked) (reply : Reply) → short_text reply ≡ None → (pending : List Asked) → pending_after request reply pending ≡ pending
shown-pending request (Done number) long pending = cc
shown-pending request (Imported made present) long pending = cc
shown-pending request Unavailable long pending = cc
shown-pending request other long pending = refl

-- only one that shows something may stay unsent
pub unsent-shows : (request : Request) (reply : Reply) → MayStayUnsent request reply → short_text reply ≡ None
unsent-shows (QueryRequest PayloadsQuery) reply (vrps, is, over) = rw is refl
unsent-shows (QueryRequest query) reply long = long
unsent-shows (CommandRequest command) reply long = long

-- what another query shows, or what is no query
pub others-unsent : (request : Request) (reply : Reply) → (request ≡ QueryRequest PayloadsQuery → ⊥) → short_text reply ≡ None
    → MayStayUnsent request reply
others-unsent (QueryRequest PayloadsQuery) reply other long = absurd (other refl)
others-unsent (QueryRequest query) reply other long = long
others-unsent (CommandRequest command) reply other long = long

-- the status line of a response to a reply of an accepted command
accepted_line : (form : ContentType) (reply : Reply) → is_accepted reply ≡ true
    → (rest : List ℕ) × (reply_response form reply ≡ codes "HTTP/1.1 200" ++ rest)
unfolding response_head digits
accepted_line form (Done number) accepted = (_, refl)
accepted_line form (Imported made present) accepted = (_, refl)
accepted_line form other accepted = cc

two_is_four : ◌≡◌ {A = ℕ} 50 52 → ⊥
two_is_four same = cc

two_is_five : ◌≡◌ {A = ℕ} 50 53 → ⊥
two_is_five same = cc

-- that of an error is another, from the first digit on
error_line : (rest : List ℕ) → HasErrorStatus (codes "HTTP/1.1 200" ++ rest) → ⊥
unfolding digits
error_line rest (DoneStatus, more, other, is) = other refl
error_line rest (ServiceUnavailable, more, other, is) = two_is_five (ap (λ line. get_or line 9 0) is)
error_line rest (status, more, other, is) = two_is_four (ap (λ line. get_or line 9 0) is)

-- a text that begins so has it too
pub longer_error : (text more : List ℕ) → HasErrorStatus text → HasErrorStatus (text ++ more)
longer_error text more (status, rest, other, is) =
    (status, rest ++ more, other, ap (λ u. u ++ more) is ∙ append_assoc (codes "HTTP/1.1 " ++ status_line status) rest more)

module _ {S : Type 0} (g : Ghosts S) where
  pub same_keeps : (desk : Desk S) → AllStays g desk desk
  same_keeps desk = (λ clean rows holds. holds, λ clean before stands. (before, stands, λ fits. fits, (refl, λ pending left. left)))

  shown_keeps : (old new : Desk S) (request : Asked) (reply : Reply) → RepliesAt g old request reply new
      → short_text reply ≡ None → AllStays g old new
  shown_keeps old new request reply replies long = (
    replies.kept (shown-unaccepted reply long),
    λ clean before stands.
        let (after, stands_after, values, (answers, left)) = replies.replies clean before stands in (
          after,
          stands_after,
          values,
          (
            long-keeps (charter_of old) before after request.day request.caller request.request reply answers long,
            λ pending was. subst (LeavesAtMost g (charter_of old) new after) (shown-pending request reply long pending) (left pending was),
          ),
        ),
  )

  -- a request that the desk answered, and the response to its reply, which may stay unsent for this cause
  module _ (old new : Desk S) (form : ContentType) (request : Asked) (reply : Reply) (Cause : Type 0)
      (unsent : Cause → MayStayUnsent request.request reply) (replies : RepliesAt g old request reply new) where
    answers-asked : (text : List ℕ) → IsResponseUnless Cause form reply text → AnswersNext g old (AskedNext form request) text new
    answers-asked text (inl is) = inl (reply, is, replies)
    answers-asked text (inr (cause, is)) =
        let may = unsent cause in
        inr (is, shown_keeps old new request reply replies (unsent-shows request.request reply may), (reply, may, replies))

    pub asked-ok : {T E : Type 0} (r : Result T E) (Q : List ℕ → Type 0)
        → OnOk r ((text : List ℕ) × IsResponseUnless Cause form reply text × Q text)
        → OnOk r ((text : List ℕ) × AnswersNext g old (AskedNext form request) text new × Q text)
    asked-ok (Ok x) Q (text, is, written) = (text, answers-asked text is, written)
    asked-ok (Err e) Q written = tt

    pub asked-err : {T E : Type 0} (r : Result T E) (Q : List ℕ → Type 0)
        → OnErr r ((text : List ℕ) × IsResponseUnless Cause form reply text × Q text)
        → OnErr r ((text : List ℕ) × AnswersNext g old (AskedNext form request) text new × Q text)
    asked-err (Ok x) Q written = tt
    asked-err (Err e) Q (text, is, written) = (text, answers-asked text is, written)

  -- the response to what was read is that to the bytes
  pub responds : (old new : Desk S) (day : ℕ) (bytes text : List ℕ) (next : Next)
      → ReadsNext day bytes next → AnswersNext g old next text new → RespondsTo g old day bytes text new
  responds old new day bytes text (Refused refusal) reads answers = inl (refused refusal, reads, answers)
  responds old new day bytes text (Malformed fault) reads answers = inl (malformed fault, reads, answers)
  responds old new day bytes text (AskedNext form request) reads (inl answers) = inl (asked form request, reads, answers)
  responds old new day bytes text (AskedNext form request) reads (inr (is, keeps, leaves)) = inr (inr (form, request, reads, leaves), is, keeps)
  responds old new day bytes text NotRead needs (is, same) = inr (inl (needs, same), is, rw same (same_keeps old))

  -- a response of an error keeps the rows
  pub keeps_rows : (old new : Desk S) (day : ℕ) (bytes text : List ℕ) → RespondsTo g old day bytes text new
      → HasErrorStatus text → RowsStay g old new
  keeps_rows old new day bytes text (inl (refused refusal, reads, (is, same))) error = λ clean rows holds. rw same holds
  keeps_rows old new day bytes text (inl (malformed fault, reads, (is, same))) error = λ clean rows holds. rw same holds
  keeps_rows old new day bytes text (inl (asked form request, reads, (reply, is, replies))) error = go (is_accepted reply) refl
    where
      go : (accepted : Bool) → is_accepted reply ≡ accepted → RowsStay g old new
      go false unaccepted = replies.kept unaccepted
      go true accepted =
          let (rest, line) = accepted_line form reply accepted in
          absurd (error_line rest (rw (← line, ← is) error))
  keeps_rows old new day bytes text (inr (cause, is, keeps)) error = keeps.0

  -- how much was read of it
  pub extent-read : (old new : Desk S) (day : ℕ) (bytes text : List ℕ) (next : Next)
      → ReadsNext day bytes next → AnswersNext g old next text new → HasExtent day bytes text (extent_of next)
  extent-read old new day bytes text (Refused refusal) reads answers = inl (refusal, reads)
  extent-read old new day bytes text (Malformed fault) reads answers = (reads.0, reads.1, reads.2)
  extent-read old new day bytes text (AskedNext form request) reads answers = (reads.0, reads.1, reads.2)
  extent-read old new day bytes text NotRead needs (is, same) = inr is

-- a message without a body that is read takes no memory
pub unread-needs : (bytes : List ℕ) (said : Head) (body : Option (Bor (List ℕ))) → IsMessage bytes said (option_copied body)
    → (body ≡ None → takes_body said.action ≡ true) → NeedsMemory bytes
unread-needs bytes said None message takes =
    let short : is_some said.body_length ≡ false = rw (← message.size) refl in
    absurd (true≢false (sym (takes refl) ∙ sym (says-length message.head said message.says) ∙ short))
unread-needs bytes said (Some body) message takes = inr (inr (said, body.now, message))

-- the head, and then the rest of the message
pub next-read : (day : ℕ) (r : Option Next) (said : Head) (head before between after : List ℕ)
    → IsWholeHead head → SaysHead head (Ok said) → Gives head before between
    → IfSome r (λ next. (rest : List ℕ) × Gives rest between after
    × ((whole : List ℕ) → IsWholeHead whole → SaysHead whole (Ok said) → ReadsNext day (whole ++ rest) next))
    → IfSome r (λ next. (bytes : List ℕ) × Gives bytes before after × ReadsNext day bytes next)
next-read day None said head before between after whole says given read = tt
next-read day (Some next) said head before between after whole says given (rest, given_rest, reads) =
    (head ++ rest, gives-more before between after head rest given given_rest, reads head whole says)
