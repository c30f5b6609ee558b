use Rattle.policy.proofs.Vocabulary.{◌+◌, Some, refl, sym, ap, subst, arith, take_all, Rows, rows_of, RowsIfAny, AreAuthorized}
use Rattle.policy.proofs.Imports.{of_rows-none, of_rows-more, so_far-start, so_far-more, so_far-denied}
use Rattle.policy.proofs.decision.import.import_rows.Goals as goal

pub loop-row-init : goal.loop-row-init
loop-row-init c = (
  refl,
  λ charter history h legal are. so_far-start charter history h c.args.day c.args.caller.now c.new-auths.result (rows_of c.in_ok-rows.rows) c.new-auths.ensures.items legal are,
  of_rows-none c.args.listed.now c.new-auths.result.items c.new-auths.ensures.items,
  subst (AreAuthorized c.in_ok-authorized.authorized) c.deref.ensures.value c.in_ok-authorized.ensures,
)

pub returns-in-Err-clause-answer : goal.returns-in-Err-clause-answer
returns-in-Err-clause-answer c charter history h legal are =
    let a = c.args in
    let start = subst (λ (r : Rows). RowsIfAny history h (Some r)) (sym c.in_ok-rows.ensures.cases) are in
    let so_far = c.loop-row.invariant.1 charter history h legal start in
    let denied = c.in-Err.ensures.judged charter so_far.edit.after h so_far.legal so_far.rows_are in
    rw c.refusal_at.ensures (so_far-denied charter history h a.day a.caller.now a.listed.now c.loop-row.row-index c.row-item.result c.loop-row.auths (rows_of c.loop-row.rows)
    so_far (omega arith) c.row-item.is c.loop-row.place c.loop-row.invariant.0 c.in-Err.refusal denied)

pub loop-row-preserved : goal.loop-row-preserved
loop-row-preserved c = (
  ap (λ n. n + 1) c.loop-row.invariant.0,
  λ charter history h legal start.
      let so_far = c.loop-row.invariant.1 charter history h legal start in
      let done = c.in_default.ensures.judged charter so_far.edit.after h so_far.legal so_far.rows_are in
      so_far-more charter history h c.args.day c.args.caller.now c.args.listed.now c.loop-row.row-index c.row-item.result
      c.loop-row.auths c.import_row-done.new.auths (rows_of c.loop-row.rows) (rows_of c.import_row-done.new.rows) so_far (omega arith) c.row-item.is done,
  of_rows-more c.args.listed.now c.loop-row.row-index c.row-item.result c.loop-row.auths.items c.import_row-done.new.auths.items (omega arith) c.row-item.is c.loop-row.invariant.2 c.in_default.ensures.terms,
  c.in_default.ensures.authorized,
)

pub returns-clause-answer : goal.returns-clause-answer
returns-clause-answer c charter history h legal are =
    let start = subst (λ (r : Rows). RowsIfAny history h (Some r)) (sym c.in_ok-rows.ensures.cases) are in
    let so_far = rw (take_all c.loop-row.row-index c.args.listed.now (omega arith)) at c.loop-row.invariant.1 charter history h legal start in
    so_far.edit
