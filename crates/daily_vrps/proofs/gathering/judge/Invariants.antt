use Rattle.daily_vrps.proofs.Vocabulary.{◌≡◌, ◌++◌, map, drop, validation_state, Route, state_of}
use Rattle.payload.specs.VrpSet as set
use Rattle.daily_vrps.proofs.gathering.judge.Given as goal

-- the states so far, with those of the routes still to come, are those of all routes
abbrev pub invariant-loop-route : goal.invariant-loop-route
invariant-loop-route g l =
    let state = λ (r : Route). validation_state (set.items (g.I.PayloadIndex.vrps l.index)) r in
    map state_of l.states.items ++ map state (drop l.route-index l.routes) ≡ map state l.routes
