-- Connections that are accepted and answered in turn, and the lines for those that failed.
use Rattle.cli_tasks.proofs.Vocabulary.{◌≡◌, ◌∙◌, ◌+◌, ℕ, suc, Bool, List, [], ◌∷◌, ◌++◌, length, Option, Some, None, ap, append_assoc, arith, refl, subst, sym, append-nil, result_err, WebFault, Accepts, Logs, AnswersInTurn, fault_lines, line_for, Transcript}
use Rattle.std.proofs.KnownBytes.{Appends-nil, Appends-trans}

-- ---- what is known

pub accepts-then : (old state new : Option (List Transcript)) (first later : List Transcript)
    → Accepts old state first → Accepts state new later → Accepts old new (first ++ later)
accepts-then None state new first later h k = tt
accepts-then (Some old) None new first later h k = absurd h
accepts-then (Some old) (Some state) None first later h k = absurd k
accepts-then (Some old) (Some state) (Some new) first later h k =
    k ∙ ap (λ passed. passed ++ later) h ∙ append_assoc old first later

pub accepts-none : (known : Option (List Transcript)) → Accepts known known []
accepts-none None = tt
accepts-none (Some passed) = sym (append-nil passed)

pub logs-none : (lost : Bool) (known : Option (List ℕ)) → Logs lost lost known known []
logs-none lost known = λ none. (none, Appends-nil known)

pub logs-then : (lost_old lost_state lost_new : Bool) (old state new : Option (List ℕ)) (first later : List ℕ)
    → Logs lost_old lost_state old state first → Logs lost_state lost_new state new later
    → Logs lost_old lost_new old new (first ++ later)
logs-then lost_old lost_state lost_new old state new first later h k = λ none.
    let (none_first, added) = h (k none).0 in (none_first, Appends-trans old state new first later added (k none).1)

-- ---- one more

pub in-turn-then : {State : Type 0} (answers : State → Transcript → State → Type 0) (old state new : State)
    (passed : List Transcript) (one : Transcript) → AnswersInTurn answers old passed state → answers state one new
    → AnswersInTurn answers old (passed ++ one ∷ []) new
in-turn-then answers old state new [] one same answered = (new, subst (λ at. answers at one new) same answered, refl)
in-turn-then answers old state new (first ∷ later) one (next, answered_first, answered_later) answered =
    (next, answered_first, in-turn-then answers next state new later one answered_later answered)

lines-then : (number : ℕ) (passed : List Transcript) (one : Transcript)
    → fault_lines number (passed ++ one ∷ []) ≡ fault_lines number passed ++ line_for (length passed + number) (result_err one.ended)
lines-then number [] one =
    let counted : number ≡ 0 + number = omega arith in
    append-nil (line_for number (result_err one.ended)) ∙ ap (λ n. line_for n (result_err one.ended)) counted
lines-then number (first ∷ later) one =
    let counted : length later + suc number ≡ suc (length later) + number = omega arith in
    rw (lines-then (suc number) later one, counted) (sym (append_assoc _ (fault_lines (suc number) later) _))

pub logs-one : (lost_old lost_state lost_new : Bool) (old state new : Option (List ℕ)) (served : ℕ) (passed : List Transcript)
    (one : Transcript) (fault : Option WebFault) → length passed ≡ served → result_err one.ended ≡ fault
    → Logs lost_old lost_state old state (fault_lines 1 passed)
    → Logs lost_state lost_new state new (line_for (served + 1) fault)
    → Logs lost_old lost_new old new (fault_lines 1 (passed ++ one ∷ []))
logs-one lost_old lost_state lost_new old state new served passed one fault counted is logged logged_one =
    rw (lines-then 1 passed one, counted, is)
    (logs-then lost_old lost_state lost_new old state new (fault_lines 1 passed) (line_for (served + 1) fault) logged logged_one)
