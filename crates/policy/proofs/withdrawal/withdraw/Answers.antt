use Rattle.policy.proofs.Vocabulary.{refl, sym, subst, err_from_is_err_and, Withdraw, IsAccepted}
use Rattle.policy.proofs.withdrawal.withdraw.Goals as goal

pub returns-in_err-may_withdraw-clause-answer : goal.returns-in_err-may_withdraw-clause-answer
returns-in_err-may_withdraw-clause-answer c charter history legal are =
    let denied = err_from_is_err_and c.from_residual.result c.from_residual.ensures.1 in
    rw (denied.1, denied.2) (c.in_err-may_withdraw.ensures charter history c.args.holder.now c.args.number legal are)

pub returns-clause-answer : goal.returns-clause-answer
returns-clause-answer c charter history legal are =
    let a = c.args in
    let h = a.holder.now in
    let done = c.in_ok-may_withdraw.ensures charter history h a.number legal are in
    subst (IsAccepted charter history a.day a.caller.now (Withdraw h a.number)) (sym c.change_of.ensures) (record {
      after = _;
      leaves = (done.verdict, refl);
      numbered = refl;
      carries = done.carries;
      sparing = (tt, tt);
      of_command = (refl, tt);
    })
