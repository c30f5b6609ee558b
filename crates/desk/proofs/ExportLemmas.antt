-- The states of routes over the VRPs of an index.
use Rattle.desk.proofs.Vocabulary.{◌≡◌, ℕ, ◌↔◌, List, [], ◌∷◌, sym, subst, map, Contains, HasState, validation_state, Route, Vrp, state_of, Validity, IsVrpOn, History, AreStatesOn}
use Rattle.daily_vrps.proofs.RouteStates.{state_has}

-- states that are those over a list are those of the VRPs of the day, where the list has just these
pub states_on : (history : History) (day : ℕ) (items : List Vrp) → ((v : Vrp) → Contains items v ↔ IsVrpOn history day v) → (routes : List Route) (states : List Validity) → map state_of states ≡ map (λ r. validation_state items r) routes → AreStatesOn history day routes states
states_on history day items same [] [] equal = tt
states_on history day items same [] (s ∷ states) equal = cc
states_on history day items same (r ∷ routes) [] equal = cc
states_on history day items same (r ∷ routes) (s ∷ states) equal =
    let first : state_of s ≡ validation_state items r = cc in
    let rest : map state_of states ≡ map (λ r. validation_state items r) routes = cc in
    (subst (HasState (IsVrpOn history day) r) (sym first) (state_has (IsVrpOn history day) items same r), states_on history day items same routes states rest)
