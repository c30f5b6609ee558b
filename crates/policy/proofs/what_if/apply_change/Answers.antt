use Rattle.policy.proofs.Vocabulary.{◌+◌, ap, ◌∙◌, subst, Contains, err_from_is_err_and, Create, rows_of, edited, carried}
use Rattle.registry.specs.declared.change.Edit.TheVariants.{Create as CreateEdit, Withdraw as WithdrawEdit}
use Rattle.registry.specs.declared.command.Proposed.TheVariants.{Withdraw}
use Rattle.policy.proofs.Parts.{part-one, part-create, part-withdraw}
use Rattle.policy.proofs.what_if.apply_change.Goals as goal

pub returns-in_err-create_in-in-Create : goal.returns-in_err-create_in-in-Create
returns-in_err-create_in-in-Create c changes more has charter history h keep whole legal are part =
    let a = c.args in
    let refused = err_from_is_err_and c.from_residual.result c.from_residual.ensures.1 in
    let named = subst (Contains changes) c.in-Create.is has in
    let one = part-one changes (more + 1) a.left_out keep whole (rows_of a.rows.now) (Create c.in-Create.terms) named part in
    rw (c.in-Create.is, refused.1, refused.2) (c.in_err-create_in-in-Create.ensures.judged charter history h keep whole legal are one)

pub returns-in_err-withdraw_from-in-Withdraw : goal.returns-in_err-withdraw_from-in-Withdraw
returns-in_err-withdraw_from-in-Withdraw c changes more has charter history h keep whole legal are part =
    let a = c.args in
    let denied = err_from_is_err_and c.from_residual-in_err-withdraw_from-in-Withdraw.result c.from_residual-in_err-withdraw_from-in-Withdraw.ensures.1 in
    let named = subst (Contains changes) c.in-Withdraw.is has in
    let one = part-one changes (more + 1) a.left_out keep whole (rows_of a.rows.now) (Withdraw c.in-Withdraw.number) named part in
    rw (c.in-Withdraw.is, denied.1, denied.2) (c.in_err-withdraw_from-in-Withdraw.ensures.judged a.left_out charter history h keep whole legal are one)

pub returns-in_ok-create_in-in-Create : goal.returns-in_ok-create_in-in-Create
returns-in_ok-create_in-in-Create c changes more has charter history h keep whole legal are part =
    let a = c.args in
    let before = rows_of a.rows.now in
    let done = c.in_ok-create_in-in-Create in
    let terms = c.in-Create.terms in
    let x = done.field-0 in
    let named = subst (Contains changes) c.in-Create.is has in
    let made = done.ensures.judged charter history h keep whole legal are (part-one changes (more + 1) a.left_out keep whole before (Create terms) named part) in
    let stays = part-create changes more a.left_out keep whole before part terms x named done.ensures.terms done.ensures.number in
    rw c.in-Create.is (record {
      verdict = made.verdict;
      rows = edited (CreateEdit x) whole;
      rows_are = carried history _ h (CreateEdit x) whole made.carries are;
      is_part = rw done.ensures.rows stays.is_part;
      others = stays.others;
      alike = λ same. done.ensures.rows ∙ ap (edited (CreateEdit x)) same;
    })

pub returns-in_ok-withdraw_from-in-Withdraw : goal.returns-in_ok-withdraw_from-in-Withdraw
returns-in_ok-withdraw_from-in-Withdraw c changes more has charter history h keep whole legal are part =
    let a = c.args in
    let before = rows_of a.rows.now in
    let n = c.in-Withdraw.number in
    let named = subst (Contains changes) c.in-Withdraw.is has in
    let gone = c.in_ok-withdraw_from-in-Withdraw in
    let done = gone.ensures.judged a.left_out charter history h keep whole legal are (part-one changes (more + 1) a.left_out keep whole before (Withdraw n) named part) in
    let stays = part-withdraw changes more a.left_out keep whole before part n named in
    rw c.in-Withdraw.is (record {
      verdict = done.verdict;
      rows = edited (WithdrawEdit n) whole;
      rows_are = carried history _ h (WithdrawEdit n) whole done.carries are;
      is_part = rw gone.ensures.rows stays.is_part;
      others = stays.others;
      alike = λ same. gone.ensures.rows ∙ ap (edited (WithdrawEdit n)) same;
    })
