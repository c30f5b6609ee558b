use Rattle.requests.proofs.Vocabulary.{◌≡◌, drop, find, form_of, action_at, is_asked_by}
use Rattle.requests.proofs.path.Path.action.Given as goal

abbrev pub invariant-loop-action : goal.invariant-loop-action
invariant-loop-action l =
    find (λ action. is_asked_by l.method l.self (form_of action)) (drop l.action-index l.action-items)
    ≡ action_at l.method l.fn.self
