-- Queries outside a transaction, one after the other.
use Rattle.store_transactions.proofs.Vocabulary.{Result, Ok, ◌∙◌, arith, IsErr, on_ok_weaker, Held, state, Ghosts, unchanged_then, survives_then, IsAsked, IsClean}
use Rattle.store_transactions.proofs.QueryLemmas.{no_answer}

module _ {S : Type 0} (g : Ghosts S) where
  pub asked_then : {X Y E F : Type 0} (x : X) (r : Result Y F) (a b c : Held S) → IsAsked {X = X} {E = E} g a b (Ok x) → IsAsked g b c r → IsAsked g a c r
  asked_then x r a b c first second =
      let before : IsClean g c → IsClean g b = λ clean. omega (arith, clean, second.survives.clean) in
      record {
        idle = second.idle;
        same = λ clean. on_ok_weaker r (unchanged_then (state g a) (state g b) (state g c) (first.same (before clean))) (second.same clean);
        kept = λ clean still. let later = second.kept clean still in let earlier = first.kept (before clean) later.0 in (earlier.0, later.1 ∙ earlier.1, later.2 ∙ earlier.2);
        survives = survives_then (state g a) (state g b) (state g c) (λ _. ⊥) (λ _. ⊥) (λ _. ⊥) (λ _ db none. none) (λ _ db none. none) first.survives second.survives;
      }

  -- whatever a fault is passed on as
  pub asked_in_vain : {X Y E F : Type 0} (s : Result X E) (r : Result Y F) (a b : Held S) → IsErr r → IsAsked g a b s → IsAsked g a b r
  asked_in_vain s r a b failed asked = record { idle = asked.idle; same = λ clean. no_answer _ r failed; kept = asked.kept; survives = asked.survives }
