-- A what-if answers what validity answers once the changes are made.
use Rattle.std.specs.Prelude.{◌≡◌, ℕ, true, List, map}
use Rattle.std.specs.Global.{Vec}
use Rattle.std.specs.List.{list_all}
use Rattle.addr.specs.declared.route.Route.{Route}
use Rattle.payload.specs.declared.validity.Validity.{Validity}
use Rattle.registry.specs.History.{History}
use Rattle.registry.specs.HypotheticalHistory.{hypothetical_command}
use Rattle.registry.specs.declared.charter.Charter.{Charter}
use Rattle.registry.specs.declared.command.Proposed.{Proposed}
use Rattle.daily_vrps.specs.States.{states_after}
use Rattle.desk.specs.Answer.{is_accepted, AnswersWhatIf, AreStatesOn}
use Rattle.desk.specs.Run.{Runs}
use Rattle.registry.specs.declared.asked.Asked.{Asked}
use Rattle.registry.specs.declared.asked.Request.TheVariants.{Command as CommandRequest}
use Rattle.desk.specs.declared.reply.Reply.{Reply}
use Rattle.desk.specs.declared.reply.Reply.TheVariants.{Report}

-- the requests for the changes at a holder, by one caller on one day
abbrev pub requests_for : ℕ → List ℕ → List ℕ → List Proposed → List Asked
requests_for day caller holder changes =
    map (λ change. record {
      day = day;
      caller = caller;
      request = CommandRequest (hypothetical_command holder change);
    }) changes

-- the changes are requested one after the other, each is accepted, and they leave this history
abbrev pub AreDone :
    Charter → History → ℕ → List ℕ → List ℕ → List Proposed → List Reply → History → Type 0
AreDone charter before day caller holder changes replies after =
    (list_all is_accepted replies ≡ true)
    × Runs charter before (requests_for day caller holder changes) replies after

-- Where a what-if is answered with states, there are replies by which its changes are done; and
-- whatever the replies are, the second states are then those over the VRPs of the day.
abbrev pub WhatIfAsDone : Type 0
WhatIfAsDone =
    (charter : Charter) (history : History) (day : ℕ) (caller holder : List ℕ)
    (changes : List Proposed) (routes : List Route) (states : Vec (Validity × Validity))
    → AnswersWhatIf charter history day caller holder changes routes (Report states)
    → ((replies : List Reply) × (after : History)
    × AreDone charter history day caller holder changes replies after)
    × ((replies : List Reply) (after : History)
    → AreDone charter history day caller holder changes replies after
    → AreStatesOn after day routes (states_after states.items))
