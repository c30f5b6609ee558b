use Rattle.policy.proofs.Vocabulary.{sym, ◌∙◌, ap, eqb, inl, inr, refl, subst, list_any, false≢true, err_from_is_err_and, Revoke, IsAccepted}
use Rattle.policy.proofs.RowsLemmas.{registered-by_grant}
use Rattle.policy.proofs.CarryGrants.{carries-revoke}
use Rattle.policy.proofs.granting.revoke.Goals as goal

pub returns-clause-answer : goal.returns-clause-answer
returns-clause-answer c history legal granted =
    let a = c.args in
    let h = a.holder.now in
    let has = sym (ap (list_any (λ g. eqb g.number a.number)) granted) ∙ sym c.is_among.ensures ∙ c.in_ok-require-2.ensures in
    let registered = registered-by_grant a.charter.now history h (λ g. eqb g.number a.number) legal has in
    subst (IsAccepted a.charter.now history a.day a.caller.now (Revoke h a.number)) (sym c.change_of.ensures) (record {
      after = _;
      leaves = ((sym (c.is_steward.ensures history h granted) ∙ c.in_ok-require.ensures, (has, tt)), refl);
      numbered = refl;
      carries = carries-revoke history a.day a.caller.now h a.number registered;
      sparing = (tt, tt);
      of_command = (refl, tt);
    })

pub returns-in_err-require-2-clause-answer : goal.returns-in_err-require-2-clause-answer
returns-in_err-require-2-clause-answer c history legal granted =
    let a = c.args in
    let h = a.holder.now in
    let p = err_from_is_err_and c.from_residual-in_err-require-2.result c.from_residual-in_err-require-2.ensures.1 in
    let lacks = sym (ap (list_any (λ g. eqb g.number a.number)) granted) ∙ sym c.is_among.ensures ∙ c.in_err-require-2.ensures.0 in
    rw (p.1, p.2) (inr (
      sym (c.is_steward.ensures history h granted) ∙ c.in_ok-require.ensures,
      inl (λ has. false≢true (sym lacks ∙ has), c.in_err-require-2.ensures.1),
    ))
