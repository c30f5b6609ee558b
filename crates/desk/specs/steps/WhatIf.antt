-- Steps of a what-if: which authorizations its changes would exchange, and the states over that exchange.
use Rattle.std.specs.Prelude.{ℕ, List}
use Rattle.addr.specs.declared.route.Route.{Route}
use Rattle.registry.specs.History.{History}
use Rattle.registry.specs.HypotheticalHistory.{HypotheticalHistory}
use Rattle.registry.specs.declared.authorization.Auth.{Auth}
use Rattle.registry.specs.declared.charter.Charter.{Charter}
use Rattle.registry.specs.declared.command.Proposed.{Proposed}
use Rattle.registry.specs.Verdict.{IsLegal}
use Rattle.daily_vrps.specs.Days.{ExchangesVrps, IsDayOfRows}
use Rattle.daily_vrps.specs.KeptDay.{KeptDay}
use Rattle.daily_vrps.specs.States.{states_after, states_now}
use Rattle.payload.specs.declared.validity.Validity.{Validity}
use Rattle.sqlite.specs.Store.{Ghosts}
use Rattle.store.specs.StoreRows.{StoreView}
use Rattle.desk.specs.Answer.{AreStatesOn}
use Rattle.desk.specs.Desk.{HoldsRowsOf}

-- the exchange gives the VRPs of the history that the changes of the caller at the holder would leave
abbrev pub WouldExchange :
    Charter → History → ℕ → List ℕ → List ℕ → List Proposed → List Auth → List Auth → Type 0
WouldExchange charter before day caller holder changes ended begun =
    (after : History) × HypotheticalHistory charter day caller holder before changes after
    × ExchangesVrps before after day ended begun

-- the states of the routes on the history, and on each history whose VRPs the exchange gives
abbrev pub AreStatesOver :
    History → ℕ → List Auth → List Auth → List Route → List (Validity × Validity) → Type 0
AreStatesOver history day ended begun routes states =
    AreStatesOn history day routes (states_now states)
    × ((after : History) → ExchangesVrps history after day ended begun
    → AreStatesOn after day routes (states_after states))

-- the VRPs are those of the rows that the tables held, of each legal history whose rows these are
abbrev pub IsDayOfHeld : {S : Type 0} → Ghosts S → StoreView S → KeptDay → Type 0
IsDayOfHeld g store kept =
    (history : History) → IsLegal store.charter history
    → (held : HoldsRowsOf g store history) → IsDayOfRows held.0 kept
