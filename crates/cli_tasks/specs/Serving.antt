-- What `roadesk serve` does on its connections, and the line that it prints for one that failed.
use Rattle.std.specs.Prelude.{◌≡◌, ◌≢◌, ℕ, suc, Bool, true, false, List, [], ◌∷◌, ◌++◌, MatchBool, Option, Some, None, Result, IfOk, codes, decimal}
use Rattle.std.specs.Result.{result_err}
use Rattle.sqlite.specs.Store.{Ghosts}
use Rattle.desk.specs.Prepared.{day_of, IsPrepared}
use Rattle.desk.specs.declared.desk.Desk.{Desk}
use Rattle.http_messages.specs.Input.{HasNoMore}
use Rattle.requests.specs.HttpRequests.{IsCutShort}
use Rattle.web.specs.HttpAnswers.{RespondsTo}
use Rattle.web.specs.RequestExtent.{HasExtent}
use Rattle.web.specs.ScriptAnswer.{IsLaterDesk}
use Rattle.web.specs.WebFault.{web_fault_number}
use Rattle.web.specs.declared.http.Extent.{Extent}
use Rattle.web.specs.declared.http.WebFault.{WebFault}
use Rattle.web.specs.declared.http.WebFault.TheVariants.{Read, Write}

-- What passed on a connection: the bytes that were read, whether the last read met the end or failed, the bytes that were
-- written, whether the last write failed, and how much of the request was read, or the fault that serving it ended
-- with.
pub record Transcript : Type 0 where
  pub received : List ℕ
  pub has_ended : Bool
  pub read_failed : Bool
  pub sent : List ℕ
  pub write_failed : Bool
  pub ended : Result Extent WebFault

-- ---- one connection

-- What became of a connection, where `responds old received text new` says what may be responded, and which state that
-- leaves. Without a fault, what was sent is the response to what was received. With the first, no whole request came, no
-- more can come, and nothing was done. With the second, a write failed within the response.
abbrev pub EndsWith : {State : Type 0} → (State → List ℕ → List ℕ → State → Type 0) → State → Transcript → Option WebFault → State → Type 0
EndsWith responds old passed None new = responds old passed.received passed.sent new
EndsWith responds old passed (Some Read) new =
    IsCutShort passed.received × HasNoMore passed.has_ended passed.read_failed × (passed.sent ≡ []) × (new ≡ old)
EndsWith responds old passed (Some Write) new =
    (unsent : List ℕ) × responds old passed.received (passed.sent ++ unsent) new × (passed.write_failed ≡ true)

-- A connection on a day, and the desk before and after it. Without a fault it is known how much of the request was read:
-- of one that was not read whole, more may come.
abbrev pub Serves : {S : Type 0} → Ghosts S → ℕ → Desk S → Transcript → Desk S → Type 0
Serves g day old passed new =
    IsLaterDesk g old new
    × EndsWith (λ before bytes text after. RespondsTo g before day bytes text after) old passed (result_err passed.ended) new
    × IfOk passed.ended (λ extent. HasExtent day passed.received passed.sent extent)

-- ---- ready for a day

-- the desk was made ready for the day: the day is kept, or it could not be read and none is
abbrev pub IsReadied : {S : Type 0} → Ghosts S → ℕ → Desk S → Desk S → Type 0
IsReadied g day old new = (done : Bool) × IsPrepared g day done old new

-- the desk is ready for the day if it keeps it, and this is said of it
abbrev pub TellsReady : {S : Type 0} → ℕ → Desk S → Bool → Type 0
TellsReady day desk said =
    (said ≡ true → day_of desk.kept ≡ Some day) × (said ≡ false → day_of desk.kept ≢ Some day)

-- what was ready before a connection is made ready again after it, and what was not is left alone
abbrev pub ReadiesAgain : {State : Type 0} → (State → State → Type 0) → Bool → State → State → Type 0
ReadiesAgain readied was_ready old new = MatchBool was_ready (readied old new) (new ≡ old)

-- a connection is answered, and then the state is made ready again
abbrev pub AnswersReady : {State : Type 0} → (State → Transcript → State → Type 0) → (State → Bool → Type 0)
    → (State → State → Type 0) → State → Transcript → State → Type 0
AnswersReady {State} answers tells_ready readied old passed new =
    (next : State) × answers old passed next
    × (was_ready : Bool) × tells_ready old was_ready × ReadiesAgain readied was_ready next new

-- ---- one after the other

-- each is answered on the state that the one before it left
abbrev pub AnswersInTurn : {State : Type 0} → (State → Transcript → State → Type 0) → State → List Transcript → State → Type 0
AnswersInTurn answers old [] new = new ≡ old
AnswersInTurn {State} answers old (passed ∷ later) new =
    (next : State) × answers old passed next × AnswersInTurn answers next later new

-- the desk is made ready for the day, and then answers these connections, each on what the one before it left
abbrev pub ServesInTurn : {S : Type 0} → Ghosts S → ℕ → Desk S → List Transcript → Desk S → Type 0
ServesInTurn {S} g day old passed new =
    (ready : Desk S) × IsReadied g day old ready
    × AnswersInTurn (AnswersReady (Serves g day) (TellsReady day) (IsReadied g day)) ready passed new

-- the line for the connection of this number, counted from 1, and this fault
abbrev pub fault_line : ℕ → ℕ → List ℕ
fault_line connection fault =
    codes "roadesk: connection " ++ decimal connection ++ codes ": fault " ++ decimal fault ++ 10 ∷ []

-- the line where there is a fault
abbrev pub line_for : ℕ → Option WebFault → List ℕ
line_for connection None = []
line_for connection (Some fault) = fault_line connection (web_fault_number fault)

-- the lines for connections that are counted from this number on
abbrev pub fault_lines : ℕ → List Transcript → List ℕ
fault_lines number [] = []
fault_lines number (passed ∷ later) = line_for number (result_err passed.ended) ++ fault_lines (suc number) later
