use Rattle.policy.proofs.Vocabulary.{sym, ap, subst, refl, err_from_is_err_and, Delegate, edit_number, IsAccepted}
use Rattle.policy.proofs.CarrySpace.{sparing, carries-delegate}
use Rattle.policy.proofs.delegation.delegate.Goals as goal

pub returns-in_err-held-clause-answer : goal.returns-in_err-held-clause-answer
returns-in_err-held-clause-answer c history day legal are =
    let refused = err_from_is_err_and c.from_residual.result c.from_residual.ensures.1 in
    rw (refused.1, refused.2) (c.in_err-held.ensures history day c.args.holder.now are, refl)

pub returns-in_err-more-clause-answer : goal.returns-in_err-more-clause-answer
returns-in_err-more-clause-answer c history day legal are =
    let refused = err_from_is_err_and c.from_residual-in_err-more.result c.from_residual-in_err-more.ensures.1 in
    rw (refused.1, refused.2) (c.in_ok-held.ensures history day c.args.holder.now are).0

pub returns-in_err-edit-clause-answer : goal.returns-in_err-edit-clause-answer
returns-in_err-edit-clause-answer c history day legal are =
    let refused = err_from_is_err_and c.from_residual-in_err-edit.result c.from_residual-in_err-edit.ensures.1 in
    rw (refused.1, refused.2) (c.in_ok-held.ensures history day c.args.holder.now are).0

pub returns-clause-answer : goal.returns-clause-answer
returns-clause-answer c history day legal are =
    let a = c.args in
    let h = a.holder.now in
    let p = a.prefix.now in
    let had = c.in_ok-held.ensures history day h are in
    let rules = had.0.1 in
    subst (IsAccepted a.charter.now history day a.caller.now (Delegate h p)) (sym c.change_of.ensures) (record {
      after = _;
      leaves = (had.0, refl);
      numbered = ap edit_number c.in_ok-edit.ensures.is;
      carries = carries-delegate history day a.caller.now h p c.in_ok-more.more c.new.result c.in_ok-edit.edit c.in_ok-held.held.now
          rules.0 rules.1.1.0 had.1 c.in_ok-edit.ensures c.in_ok-more.ensures c.new.ensures.items;
      sparing = (sparing _ _ _ _ c.in_ok-edit.ensures, tt);
      of_command = (refl, tt);
    })
