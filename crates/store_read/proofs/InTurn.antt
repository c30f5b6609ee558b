-- Reads in turn: what one read leaves as it was, for those before and after it.
use Rattle.store_read.proofs.Vocabulary.{ℕ, List, Result, Ok, arith, Held, state, CharterSets, AllRows, FitIfAny, TablesHold, IsAsked, IsClean, OpenEachRows}
use Rattle.sqlite.specs.Store.{Ghosts}
use Rattle.store_read.proofs.Loading.{held_before, refused_before}

module _ {S : Type 0} (g : Ghosts S) where
  -- a disk that is clean after a read was so before it
  pub earlier : {X E : Type 0} {b c : Held S} {r : Result X E} → IsAsked g b c r → IsClean g c → IsClean g b
  earlier asked clean = omega (arith, clean, asked.survives.clean)

  -- what the tables held before a read they hold after it
  pub later : {X E : Type 0} {x : X} {a b : Held S} → IsAsked {X = X} {E = E} g a b (Ok x) → IsClean g b → (charter : CharterSets) (rows : AllRows)
      → TablesHold charter rows (state g a).now.trees → TablesHold charter rows (state g b).now.trees
  later {a = a} {b = b} asked clean = held_before (state g a) (state g b) (asked.same clean).0.now_is

  -- rows of a holder that do not fit after a read did not fit before it
  pub unfit_later : {X E : Type 0} {x : X} {a b : Held S} {h : List ℕ} → IsAsked {X = X} {E = E} g a b (Ok x) → IsClean g b
      → OpenEachRows (λ all. ¬ FitIfAny (all.of_holder h)) (state g b) → OpenEachRows (λ all. ¬ FitIfAny (all.of_holder h)) (state g a)
  unfit_later {a = a} {b = b} {h = h} asked clean =
      let same = (asked.same clean).0 in
      refused_before (λ all. ¬ FitIfAny (all.of_holder h)) (state g a) (state g b) same.was_open same.now_is
