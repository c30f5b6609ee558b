use Rattle.policy.proofs.Vocabulary.{inl, inr, err_from_is_err_and, Alter, gives_access}
use Rattle.policy.proofs.CarryTerms.{carries-withdraw}
use Rattle.policy.proofs.RowsLemmas.{registered-by_grant}
use Rattle.policy.proofs.withdrawal.may_withdraw.Goals as goal

pub returns-in_err-found_with_access : goal.returns-in_err-found_with_access
returns-in_err-found_with_access c charter history h n legal are =
    let denied = err_from_is_err_and c.from_residual-in_err-found_with_access.result c.from_residual-in_err-found_with_access.ensures.1 in
    rw (denied.1, denied.2) (inr (c.in_ok-require_access.ensures history h are.grants, inl (c.in_err-found_with_access.ensures.judged history h n are)))

pub returns : goal.returns
returns c charter history h n legal are =
    let a = c.args in
    let has = c.in_ok-require_access.ensures history h are.grants in
    let number = c.in_ok-found_with_access.ensures.judged history h n are in record {
      verdict = (has, (number.1, tt));
      carries = carries-withdraw history a.day a.caller.now h n (registered-by_grant charter history h (gives_access a.day a.caller.now Alter) legal has);
    }
