-- What a request makes of the day whose VRPs are kept.
use Rattle.std.specs.Prelude.{◌≡◌, ◌≢◌, ◌⊎◌, ℕ, zero, ◌≤◌, Bool, true, false, List, [], ◌∷◌, Contains, Option, Some, None, IfSome, ⊤}
use Rattle.addr.specs.declared.vrp.Vrp.{Vrp}
use Rattle.registry.specs.declared.charter.Charter.{Charter}
use Rattle.registry.specs.DailyVrps.{IsVrpOn}
use Rattle.registry.specs.History.{History}
use Rattle.registry.specs.declared.authorization.ImportRow.{ImportRow}
use Rattle.registry.specs.declared.asked.Asked.{Asked}
use Rattle.registry.specs.declared.asked.Request.{Request}
use Rattle.registry.specs.declared.asked.Request.TheVariants.{Command as CommandRequest, Query as QueryRequest}
use Rattle.registry.specs.declared.command.Command.{Command}
use Rattle.registry.specs.declared.command.Command.TheVariants.{Create, Amend, Import, Slurm}
use Rattle.registry.specs.declared.command.Query.{Query}
use Rattle.registry.specs.declared.command.Query.TheVariants.{Payloads as PayloadsQuery, Validity as ValidityQuery}
use Rattle.desk.specs.Answer.{is_accepted, AnswersRequest}
use Rattle.desk.specs.declared.reply.Reply.{Reply}
use Rattle.desk.specs.declared.reply.Reply.TheVariants.{Imported, Unavailable}

-- the reply to an import of which every row was authorized already
abbrev pub has_made_none : Reply → Bool
has_made_none (Imported zero present) = true
has_made_none other = false

-- the command, with this reply, puts an authorization in force on the day
abbrev pub PutsOn : Command → Reply → ℕ → Type 0
PutsOn (Create holder terms) reply day = (terms.from ≤ day) × (day ≤ terms.until)
PutsOn (Amend holder n maxes until) reply day = day ≤ until
PutsOn (Import holder rows) reply day =
    (has_made_none reply ≡ false)
    × ((r : ImportRow) × Contains rows.items r × (r.from ≤ day) × (day ≤ r.until))
PutsOn command reply day = ⊥

-- the day stays, or is dropped; it is dropped only if it is one of these
abbrev pub StaysUnless : (ℕ → Type 0) → Option ℕ → Option ℕ → Type 0
StaysUnless Days old new = (new ≡ old) ⊎ ((new ≡ None) × IfSome old Days)

-- An accepted command leaves the day, except that new SLURM files drop it, and a command that puts an authorization in
-- force on it may drop it, if an allocation for the VRPs fails.
abbrev pub DayAfterCommand : Command → Reply → Option ℕ → Option ℕ → Type 0
DayAfterCommand (Slurm files) reply old new = new ≡ None
DayAfterCommand command reply old new = StaysUnless (PutsOn command reply) old new

-- some VRP is on the day after the one history, and was not on it after the other
abbrev pub GainsVrpOn : History → History → ℕ → Type 0
GainsVrpOn before after day = (v : Vrp) × IsVrpOn after day v × ¬ IsVrpOn before day v

-- From the one history to the other, a command that is not new SLURM files drops the day only if a VRP comes to it.
abbrev pub DropsForGain : Request → History → History → Option ℕ → Option ℕ → Type 0
DropsForGain (CommandRequest (Slurm files)) before after old new = ⊤
DropsForGain (CommandRequest command) before after old new = StaysUnless (GainsVrpOn before after) old new
DropsForGain (QueryRequest query) before after old new = ⊤

-- A query for the VRPs of a day keeps that day. If it was not kept, the reply may be Unavailable, and then no day is
-- kept.
abbrev pub MovesDay : ℕ → Reply → Option ℕ → Option ℕ → Type 0
MovesDay day reply old new =
    (new ≡ Some day) ⊎ ((new ≡ None) × (reply ≡ Unavailable) × (old ≢ Some day))

abbrev pub DayAfterQuery : ℕ → Query → Reply → Option ℕ → Option ℕ → Type 0
DayAfterQuery day PayloadsQuery reply old new = MovesDay day reply old new
DayAfterQuery day (ValidityQuery routes) reply old new = MovesDay day reply old new
DayAfterQuery day query reply old new = new ≡ old

-- What a request on the day makes of the day that is kept. A command that is not accepted leaves it.
abbrev pub DayAfter : ℕ → Request → Reply → Option ℕ → Option ℕ → Type 0
DayAfter day (CommandRequest command) reply old new =
    (is_accepted reply ≡ true → DayAfterCommand command reply old new)
    × (is_accepted reply ≡ false → new ≡ old)
DayAfter day (QueryRequest query) reply old new = DayAfterQuery day query reply old new

-- and so each of some requests, one after the other
abbrev pub DayAfterAll : List Asked → List Reply → Option ℕ → Option ℕ → Type 0
DayAfterAll [] [] old new = new ≡ old
DayAfterAll (asked ∷ more) (reply ∷ replies) old new =
    (mid : Option ℕ) × DayAfter asked.day asked.request reply old mid
    × DayAfterAll more replies mid new
DayAfterAll _ _ old new = ⊥

-- the same over the histories, each request on the one that those before it left
abbrev pub DropsForGainAll :
    Charter → History → List Asked → List Reply → History → Option ℕ → Option ℕ → Type 0
DropsForGainAll charter before [] [] after old new = (after ≡ before) × (new ≡ old)
DropsForGainAll charter before (asked ∷ more) (reply ∷ replies) after old new =
    (next : History) × (mid : Option ℕ)
    × AnswersRequest charter before asked.day asked.caller asked.request reply next
    × DayAfter asked.day asked.request reply old mid
    × DropsForGain asked.request before next old mid
    × DropsForGainAll charter next more replies after mid new
DropsForGainAll _ _ _ _ _ old new = ⊥
