use Rattle.policy.proofs.Vocabulary.{inr, true, sym, ◌∙◌, Some, Err, false≢true, err_from_is_err_and, Refusal, Denied, Memory, Rule, JudgesRow, row_command, rows_of, Verdict, IsRefusedBy}
use Rattle.policy.proofs.Parts.{whole-part}
use Rattle.policy.proofs.decision.import.import_row.Goals as goal

-- another fact of the rule that denies
refused_by : {P Q : Rule → Type 0} (refusal : Refusal) → ((rule : Rule) → P rule → Q rule) → IsRefusedBy P refusal → IsRefusedBy Q refusal
refused_by (Denied rule place) to denied = to rule denied
refused_by Memory to refused = tt

pub returns-in_err-auth-clause-judged : goal.returns-in_err-auth-clause-judged
returns-in_err-auth-clause-judged c charter history h legal are =
    let refused = err_from_is_err_and c.from_residual-in_err-auth.result c.from_residual-in_err-auth.ensures.1 in
    let rows = rows_of c.args.rows.now in
    let judged = rw c.in_ok-terms.ensures at c.in_err-auth.ensures.judged charter history h (λ _. true) rows legal are (whole-part _ 0 rows) in
    let a = c.args in
    rw (refused.1, refused.2) (refused_by
    {P = λ rule. Verdict charter history a.day a.caller.now (row_command h a.row.now) (Some rule)}
    {Q = λ rule. JudgesRow charter a.day a.caller.now h history a.row.now (Err rule)} _ (λ rule denied. (
      λ present. false≢true (sym c.if-is_present.false ∙ (c.is_present.ensures history h are.1).1 present),
      denied,
    )) judged)

pub returns-clause-judged : goal.returns-clause-judged
returns-clause-judged c charter history h legal are =
    let rows = rows_of c.args.rows.now in
    inr (record {
      auth = c.in_ok-auth.auth;
      absent = λ present. false≢true (sym c.if-is_present.false ∙ (c.is_present.ensures history h are.1).1 present);
      created = rw c.in_ok-terms.ensures at c.in_ok-auth.ensures.judged charter history h (λ _. true) rows legal are (whole-part _ 0 rows);
      made_one = rw c.in_ok-push.was at c.push.ensures.items;
      put = c.in_ok-auth.ensures.rows;
    })
