use Rattle.policy.proofs.Vocabulary.{◌≡◌, ℕ, ◌+◌, true, List, length, Some, refl, sym, ap, ◌∙◌, subst, arith, take_all, Proposed, Rows, rows_of, RowsIfAny, RowsOf, IsPartFor}
use Rattle.policy.proofs.Hypothetical.{so_far-start, so_far-more, so_far-denied, denied-unregistered}
use Rattle.policy.proofs.Parts.{no-part, some-part, whole-part}
use Rattle.policy.proofs.what_if.suppose_on.Goals as goal

-- all rows, if none are left out
all_rows : (changes : List Proposed) (left_out : ℕ) (rows : Rows) → left_out ≡ 0 → IsPartFor changes (length changes) left_out (λ _. true) rows rows
all_rows changes left_out rows zero = subst (λ (k : ℕ). IsPartFor changes (length changes) k (λ _. true) rows rows) (sym zero) (whole-part changes (length changes) rows)

pub returns-in_default-clause-rows : goal.returns-in_default-clause-rows
returns-in_default-clause-rows c zero charter history h legal are =
    let a = c.args in
    denied-unregistered charter history h a.day a.caller.now a.changes.now c.requires legal (rw c.in_default.is at are)

pub returns-in_default-clause-part : goal.returns-in_default-clause-part
returns-in_default-clause-part c charter history h keep whole legal are part =
    let a = c.args in
    let none = no-part a.changes.now a.left_out keep whole (rw c.in_default.is at part) in
    denied-unregistered charter history h a.day a.caller.now a.changes.now c.requires legal (subst (RowsIfAny history h) none are)

pub loop-change-init : goal.loop-change-init
loop-change-init c = (
  refl,
  λ charter history h keep whole legal are part.
      so_far-start charter history h c.args.day c.args.caller.now c.args.changes.now c.args.left_out keep whole (rows_of c.in_ok-rows.rows) legal are part,
)

pub loop-change-preserved : goal.loop-change-preserved
loop-change-preserved c = (
  ap (λ n. n + 1) c.loop-change.invariant.0,
  λ charter history h keep whole legal are part.
      let a = c.args in
      let l = c.loop-change in
      let so_far = l.invariant.1 charter history h keep whole legal are part in
      so_far-more charter history h a.day a.caller.now a.changes.now l.change-index a.left_out c.change-item.result keep whole (rows_of c.in_ok-rows.rows) (rows_of l.rows)
      so_far (omega arith) c.change-item.is (rows_of c.apply_change-done.new.rows)
      (λ has more left. c.in_default-done.ensures a.changes.now more has charter so_far.after h keep so_far.rows so_far.legal so_far.rows_are left),
)

pub returns-in-Err-clause-rows : goal.returns-in-Err-clause-rows
returns-in-Err-clause-rows c zero charter history h legal are =
    let a = c.args in
    let l = c.loop-change in
    let start = rows_of c.in_ok-rows.rows in
    let had = subst (λ (r : Rows). RowsIfAny history h (Some r)) (sym c.in_ok-rows.ensures.cases) (rw c.in-Some.is at are) in
    let so_far = l.invariant.1 charter history h (λ _. true) start legal had (all_rows a.changes.now a.left_out start zero) in
    rw c.refusal_at.ensures (so_far-denied charter history h a.day a.caller.now a.changes.now l.change-index a.left_out c.change-item.result (λ _. true) start start (rows_of l.rows)
    so_far (omega arith) c.change-item.is l.place l.invariant.0 c.in-Err.refusal
    (λ has more left. c.in-Err.ensures a.changes.now more has charter so_far.after h (λ _. true) so_far.rows so_far.legal so_far.rows_are left))

pub returns-in-Err-clause-part : goal.returns-in-Err-clause-part
returns-in-Err-clause-part c charter history h keep whole legal are part =
    let a = c.args in
    let l = c.loop-change in
    let start = rows_of c.in_ok-rows.rows in
    let some = some-part a.changes.now a.left_out keep whole start (rw (sym c.in_ok-rows.ensures.cases) at (rw c.in-Some.is at part)) in
    let so_far = l.invariant.1 charter history h keep some.0 legal (subst (RowsIfAny history h) some.1 are) some.2 in
    rw c.refusal_at.ensures (so_far-denied charter history h a.day a.caller.now a.changes.now l.change-index a.left_out c.change-item.result keep some.0 start (rows_of l.rows)
    so_far (omega arith) c.change-item.is l.place l.invariant.0 c.in-Err.refusal
    (λ has more left. c.in-Err.ensures a.changes.now more has charter so_far.after h keep so_far.rows so_far.legal so_far.rows_are left))

pub returns-clause-rows : goal.returns-clause-rows
returns-clause-rows c zero charter history h legal are =
    let a = c.args in
    let l = c.loop-change in
    let start = rows_of c.in_ok-rows.rows in
    let had = subst (λ (r : Rows). RowsIfAny history h (Some r)) (sym c.in_ok-rows.ensures.cases) (rw c.in-Some.is at are) in
    let so_far = l.invariant.1 charter history h (λ _. true) start legal had (all_rows a.changes.now a.left_out start zero) in
    let grows = rw (take_all l.change-index a.changes.now (omega arith)) at so_far.grows in
    (so_far.after, grows, subst (RowsOf so_far.after h) (sym (so_far.alike refl)) so_far.rows_are.1)

pub returns-clause-part : goal.returns-clause-part
returns-clause-part c charter history h keep whole legal are part =
    let a = c.args in
    let l = c.loop-change in
    let start = rows_of c.in_ok-rows.rows in
    let some = some-part a.changes.now a.left_out keep whole start (rw (sym c.in_ok-rows.ensures.cases) at (rw c.in-Some.is at part)) in
    let was = subst (RowsIfAny history h) some.1 are in
    let so_far = l.invariant.1 charter history h keep some.0 legal was some.2 in
    let grows = rw (take_all l.change-index a.changes.now (omega arith)) at so_far.grows in (
      so_far.after,
      grows,
      record {
        keep = keep;
        active_before = some.0.auths;
        active_after = so_far.rows.auths;
        are_before = was.1.auths;
        are_after = so_far.rows_are.1.auths;
        kept_before = rw c.in-Some.is (ap (λ (r : Rows). r.auths) (sym c.in_ok-rows.ensures.cases) ∙ some.2.auths);
        kept_after = so_far.is_part.auths;
        others = so_far.others;
      },
    )
