use Rattle.store_write.proofs.Vocabulary.{sym, ◌∙◌, on_ok_weaker}
use Rattle.store_write.proofs.InTurn.{then_done}
use Rattle.store_write.proofs.RowSteps.{turned_registered, turned_new, turned_none}
use Rattle.store_write.proofs.change.edit_holder.Goals as goal

pub returns-then-branch-clause-done : goal.returns-then-branch-clause-done
returns-then-branch-clause-done g c =
    then_done g.S.Store c.edit_rows.ensures.inside
    (λ answered. on_ok_weaker c.edit_rows.result (turned_registered c.args.change.now.holder c.args.change.now.edit c.in_ok-is_registered.field-0 _ _ _ answered c.if-branch.true)) c.in_ok-is_registered.ensures.answered c.edit_rows.ensures.done

pub returns-in_ok-register-clause-done : goal.returns-in_ok-register-clause-done
returns-in_ok-register-clause-done g c =
    then_done g.S.Store c.register.ensures.inside
    (λ answered. turned_new c.args.change.now.holder c.args.change.now.edit c.in_ok-is_registered.field-0 _ _ _ answered c.if-branch.false (sym c.is_registration.ensures ∙ c.if-is_registration.true)) c.in_ok-is_registered.ensures.answered c.in_ok-register.ensures.done

pub returns-else-is_registration-clause-done : goal.returns-else-is_registration-clause-done
returns-else-is_registration-clause-done g c clean =
    turned_none c.args.change.now.holder c.args.change.now.edit c.in_ok-is_registered.field-0 _ _ (c.in_ok-is_registered.ensures.answered clean) c.if-branch.false (sym c.is_registration.ensures ∙ c.if-is_registration.false)
