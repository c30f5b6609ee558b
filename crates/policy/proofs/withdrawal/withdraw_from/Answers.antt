use Rattle.policy.proofs.Vocabulary.{err_from_is_err_and, rows_of}
use Rattle.policy.proofs.Parts.{part-found}
use Rattle.policy.proofs.RowsLemmas.{answers-rows}
use Rattle.policy.proofs.withdrawal.withdraw_from.Goals as goal

pub returns-in_err-may_withdraw-clause-judged : goal.returns-in_err-may_withdraw-clause-judged
returns-in_err-may_withdraw-clause-judged c left_out charter history h keep whole legal are part =
    let a = c.args in
    let denied = err_from_is_err_and c.from_residual.result c.from_residual.ensures.1 in
    let numbered = answers-rows history h a.number whole _ _ are.1 part.grants (part-found a.number 0 left_out keep whole (rows_of a.rows.now) part) in
    rw (denied.1, denied.2) (c.in_err-may_withdraw.ensures charter history h a.number legal (rw (c.deref-2.ensures.value, c.auth_of_number-found.ensures, c.deref.ensures.value) numbered))

pub returns-clause-judged : goal.returns-clause-judged
returns-clause-judged c left_out charter history h keep whole legal are part =
    let a = c.args in
    let numbered = answers-rows history h a.number whole _ _ are.1 part.grants (part-found a.number 0 left_out keep whole (rows_of a.rows.now) part) in
    c.in_ok-may_withdraw.ensures charter history h a.number legal (rw (c.deref-2.ensures.value, c.auth_of_number-found.ensures, c.deref.ensures.value) numbered)
