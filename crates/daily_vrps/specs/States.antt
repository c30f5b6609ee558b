-- States of routes: over some VRPs, and in pairs, as it is and after an exchange of authorizations.
use Rattle.std.specs.Prelude.{List, [], ◌∷◌, map}
use Rattle.addr.specs.OriginValidation.{HasState}
use Rattle.addr.specs.declared.route.Route.{Route}
use Rattle.addr.specs.declared.vrp.Vrp.{Vrp}
use Rattle.payload.specs.ValidityState.{state_of}
use Rattle.payload.specs.declared.validity.Validity.{Validity}

-- the state of each route over these VRPs, in the order of the routes
abbrev pub HaveStates : (Vrp → Type 0) → List Route → List Validity → Type 0
HaveStates Vrps [] [] = Unit {0}
HaveStates Vrps [] (s ∷ states) = ⊥
HaveStates Vrps (r ∷ routes) [] = ⊥
HaveStates Vrps (r ∷ routes) (s ∷ states) =
    HasState Vrps r (state_of s) × HaveStates Vrps routes states

-- of each route the state as it is
abbrev pub states_now : List (Validity × Validity) → List Validity
states_now states = map (λ both. both.0) states

-- and the state after the exchange
abbrev pub states_after : List (Validity × Validity) → List Validity
states_after states = map (λ both. both.1) states
