-- Reads in turn within a loop.
use Rattle.store.proofs.Vocabulary.{Ok, ⊤, StoreFault, Held, Ghosts, IsAsked, asked_then}

-- one more read after those so far
pub asked_more : {S : Type 0} (g : Ghosts S) {X E : Type 0} {x : X} {a b c : Held S} → IsAsked {X = ⊤} {E = StoreFault} g a b (Ok tt) → IsAsked {X = X} {E = E} g b c (Ok x) → IsAsked {X = ⊤} {E = StoreFault} g a c (Ok tt)
asked_more g {x = x} {a = a} {b = b} {c = c} first second =
    let asked = asked_then g tt (Ok x) a b c first second in
    record { idle = asked.idle; same = asked.same; kept = asked.kept; survives = asked.survives }
