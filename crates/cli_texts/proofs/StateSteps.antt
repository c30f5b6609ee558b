-- One more route, and the line of its state.
use Rattle.cli_texts.proofs.Vocabulary.{◌≡◌, ◌+◌, ℕ, List, [], ◌∷◌, ◌++◌, map, None, refl, sym, ap, ◌∙◌, append_assoc, append-nil, map-append, ValidationState, validation_state, Route, state_text, state_line, state_lines, RecordFields, first_fault, origin_text, route_fault, route_row, prefix_text}
use Rattle.payload.specs.VrpSet as set

pub routes_more : (all left rest : List RecordFields) (row : RecordFields) (routes : List Route) (r : Route)
    → all ≡ map route_row routes ++ left → left ≡ row ∷ rest → row ≡ route_row r
    → all ≡ map route_row (routes ++ r ∷ []) ++ rest
routes_more all left rest row routes r a l same =
    rw (a, l, same, map-append route_row routes (r ∷ []), append_assoc) refl

states_more : (vrps : set.VrpSet) (routes : List Route) (r : Route) → state_lines vrps (routes ++ r ∷ []) ≡ state_lines vrps routes ++ state_line vrps r
states_more vrps [] r = append-nil (state_line vrps r)
states_more vrps (s ∷ routes) r =
    ap (λ (t : List ℕ). state_line vrps s ++ t) (states_more vrps routes r)
    ∙ sym (append_assoc (state_line vrps s) (state_lines vrps routes) (state_line vrps r))

pub line_more : (vrps : set.VrpSet) (routes : List Route) (r : Route) (old new prefix origin : List ℕ) (state : ValidationState)
    → old ≡ state_lines vrps routes → prefix ≡ prefix_text r.prefix → origin ≡ origin_text r.origin
    → state ≡ validation_state (set.items vrps) r
    → new ≡ old ++ (prefix ++ 44 ∷ origin ++ 44 ∷ state_text state ++ 10 ∷ [])
    → new ≡ state_lines vrps (routes ++ r ∷ [])
line_more vrps routes r old new prefix origin state before one two judged pushed =
    pushed ∙ rw (before, one, two, judged, states_more vrps routes r) refl

pub first_route_more : (k : ℕ) (left rest : List RecordFields) (row : RecordFields) → left ≡ row ∷ rest → route_fault row ≡ None
    → first_fault route_fault k left ≡ first_fault route_fault (k + 1) rest
first_route_more k left rest row l none = rw (l, none) refl
