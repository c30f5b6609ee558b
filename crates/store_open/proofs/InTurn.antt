-- Steps in turn: what one step leaves as it was, for those before and after it.
use Rattle.store_open.proofs.Vocabulary.{Result, Ok, arith, HasCleanDisk, State, Survives, Trees, IsErr, Transaction, Ghosts, IsAskedInside, asked_in_vain, asked_then}

-- a disk that is clean after a step was so before it
pub earlier : {commits : Trees → Type 0} {a b : State} → Survives a b commits → HasCleanDisk b → HasCleanDisk a
earlier survives clean = omega (arith, clean, survives.clean)

module _ {S : Type 0} (g : Ghosts S) where
  -- a query after others
  pub in_turn : {X Y E F : Type 0} {x : X} {r : Result Y F} {a b c : Transaction S} → IsAskedInside {X = X} {E = E} g a b (Ok x) → IsAskedInside g b c r → IsAskedInside g a c r
  in_turn first second = asked_then g _ _ _ _ _ first second

  -- one that fails
  pub in_vain : {X Y E F : Type 0} {s : Result X E} {r : Result Y F} {a b : Transaction S} → IsErr r → IsAskedInside g a b s → IsAskedInside g a b r
  in_vain failed asked = asked_in_vain g _ _ _ failed asked.inside
