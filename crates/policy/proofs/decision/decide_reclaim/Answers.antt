use Rattle.policy.proofs.Vocabulary.{sym, ◌∙◌, ap, subst, refl, err_from_is_err_and, Reclaim, edit_number, IsAccepted, terms_overlap, numbers_where}
use Rattle.policy.proofs.CarrySpace.{sparing, carries-reclaim}
use Rattle.policy.proofs.decision.decide_reclaim.Goals as goal

pub returns-in_err-rows-clause-answer : goal.returns-in_err-rows-clause-answer
returns-in_err-rows-clause-answer c history legal are =
    let refused = err_from_is_err_and c.from_residual.result c.from_residual.ensures.1 in
    rw (refused.1, refused.2) (c.in_err-rows.ensures.admitted history c.args.basis.day are, refl)

pub returns-in_err-less-clause-answer : goal.returns-in_err-less-clause-answer
returns-in_err-less-clause-answer c history legal are =
    let refused = err_from_is_err_and c.from_residual-in_err-less.result c.from_residual-in_err-less.ensures.1 in
    rw (refused.1, refused.2) (c.in_ok-rows.ensures.admitted history c.args.basis.day are).0

pub returns-in_err-ended-clause-answer : goal.returns-in_err-ended-clause-answer
returns-in_err-ended-clause-answer c history legal are =
    let refused = err_from_is_err_and c.from_residual-in_err-ended.result c.from_residual-in_err-ended.ensures.1 in
    rw (refused.1, refused.2) (c.in_ok-rows.ensures.admitted history c.args.basis.day are).0

pub returns-in_err-edit-clause-answer : goal.returns-in_err-edit-clause-answer
returns-in_err-edit-clause-answer c history legal are =
    let refused = err_from_is_err_and c.from_residual-in_err-edit.result c.from_residual-in_err-edit.ensures.1 in
    rw (refused.1, refused.2) (c.in_ok-rows.ensures.admitted history c.args.basis.day are).0

pub returns-clause-answer : goal.returns-clause-answer
returns-clause-answer c history legal are =
    let a = c.args in
    let h = a.holder.name.now in
    let p = a.prefix.now in
    let had = c.in_ok-rows.ensures.admitted history a.basis.day are in
    let rules = had.0.1 in
    let numbers = c.in_ok-ended.ensures ∙ ap (numbers_where (λ x. terms_overlap x p)) c.deref.ensures.value in
    subst (IsAccepted a.basis.charter.now history a.basis.day a.basis.caller.now (Reclaim h p)) (sym c.change_of.ensures) (record {
      after = _;
      leaves = (had.0, refl);
      numbered = ap edit_number c.in_ok-edit.ensures.is;
      carries = carries-reclaim history a.basis.day a.basis.caller.now h p c.in_ok-less.less c.in_ok-ended.ended c.in_ok-edit.edit c.in_ok-rows.rows.now
          rules.0 rules.1.0 had.1 c.in_ok-edit.ensures c.in_ok-less.ensures numbers;
      sparing = (sparing _ _ _ _ c.in_ok-edit.ensures, tt);
      of_command = (refl, tt);
    })

pub returns-clause-ended : goal.returns-clause-ended
returns-clause-ended c =
    let p = c.args.prefix.now in
    let numbers = c.in_ok-ended.ensures ∙ ap (numbers_where (λ x. terms_overlap x p)) c.deref.ensures.value in
    rw (c.change_of.ensures, c.in_ok-rows.ensures.found, c.in_ok-edit.ensures.is) numbers
