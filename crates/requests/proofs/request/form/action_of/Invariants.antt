use Rattle.requests.proofs.Vocabulary.{◌≡◌, drop, find, action_of, is_word, word_of}
use Rattle.requests.proofs.request.form.action_of.Given as goal

abbrev pub invariant-loop-action : goal.invariant-loop-action
invariant-loop-action l =
    find (λ action. is_word l.text (word_of action)) (drop l.action-index l.action-items) ≡ action_of l.fn.text
