use Rattle.policy.proofs.Vocabulary.{sym, ◌∙◌, inl, inr, subst, false≢true, err_from_is_err_and, AnswersLoss, IfRegistered}
use Rattle.policy.proofs.decision.rows_for_reclaim.Goals as goal

pub returns-in_err-rows-clause-admitted : goal.returns-in_err-rows-clause-admitted
returns-in_err-rows-clause-admitted c history day are =
    let h = c.args.holder.name.now in
    let none = c.in_err-rows.ensures in
    let unregistered = subst (λ rows. IfRegistered history h rows (AnswersLoss history h c.args.prefix.now)) none.0 are in
    let refused = err_from_is_err_and c.from_residual-in_err-rows.result c.from_residual-in_err-rows.ensures.1 in
    rw (refused.1, refused.2) (inr (
      sym c.is_operator.ensures ∙ c.in_ok-require.ensures,
      inl (λ is. false≢true (sym unregistered ∙ is), none.1),
    ))

pub returns-in_err-require-2-clause-admitted : goal.returns-in_err-require-2-clause-admitted
returns-in_err-require-2-clause-admitted c history day are =
    let h = c.args.holder.name.now in
    let had = subst (λ rows. IfRegistered history h rows (AnswersLoss history h c.args.prefix.now)) c.in_ok-rows.ensures are in
    let unheld = c.in_err-require-2.ensures in
    let refused = err_from_is_err_and c.from_residual-in_err-require-2.result c.from_residual-in_err-require-2.ensures.1 in
    rw (refused.1, refused.2) (inr (
      sym c.is_operator.ensures ∙ c.in_ok-require.ensures,
      inr (had.0, inl (λ held. false≢true (sym unheld.0 ∙ (c.holds.ensures history h had.1.holdings).1 held), unheld.1)),
    ))

pub returns-clause-admitted : goal.returns-clause-admitted
returns-clause-admitted c history day are =
    let h = c.args.holder.name.now in
    let had = subst (λ rows. IfRegistered history h rows (AnswersLoss history h c.args.prefix.now)) c.in_ok-rows.ensures are in
    let held = (c.holds.ensures history h had.1.holdings).0 c.in_ok-require-2.ensures in
    ((sym c.is_operator.ensures ∙ c.in_ok-require.ensures, (had.0, (held, tt))), had.1)
