use Rattle.requests.proofs.Vocabulary.{sym, ◌∙◌, all_actions, form_of, is_asked_by}
use Rattle.requests.proofs.TableLemmas.{find-past}
use Rattle.requests.proofs.path.Path.action.Goals as goal

pub loop-action-preserved : goal.loop-action-preserved
loop-action-preserved c =
    find-past (λ action. is_asked_by c.args.method.now c.args.self (form_of action)) all_actions
    c.loop-action.action-index _ _ c.loop-action-test.true (sym c.if-is_asked.false ∙ c.is_asked.ensures)
    c.loop-action.invariant
