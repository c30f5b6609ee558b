use Rattle.requests.proofs.Vocabulary.{sym, ◌∙◌, all_actions, is_word, word_of}
use Rattle.requests.proofs.TableLemmas.{find-past}
use Rattle.requests.proofs.request.form.action_of.Goals as goal

pub loop-action-preserved : goal.loop-action-preserved
loop-action-preserved c =
    find-past (λ action. is_word c.args.text.now (word_of action)) all_actions c.loop-action.action-index _ _
    c.loop-action-test.true (sym c.if-has_word.false ∙ c.has_word.ensures) c.loop-action.invariant
