use Rattle.policy.proofs.Vocabulary.{sym, ◌∙◌, inl, inr, subst, not-false, not-true, false≢true, true≢false, err_from_is_err_and, AnswersLoss, HasRuns, IfRegistered, same_name}
use Rattle.policy.proofs.decision.rows_for_transfer.Goals as goal

pub returns-in_err-giving-clause-admitted : goal.returns-in_err-giving-clause-admitted
returns-in_err-giving-clause-admitted c history day giver_are taker_are =
    let giver = c.args.giver.name.now in
    let none = c.in_err-giving.ensures in
    let unregistered = subst (λ rows. IfRegistered history giver rows (AnswersLoss history giver c.args.prefix.now)) none.0 giver_are in
    let refused = err_from_is_err_and c.from_residual-in_err-giving.result c.from_residual-in_err-giving.ensures.1 in
    rw (refused.1, refused.2) (inr (
      sym c.is_operator.ensures ∙ c.in_ok-require.ensures,
      inl (λ are. false≢true (sym unregistered ∙ are.0), none.1),
    ))

pub returns-in_err-taking-clause-admitted : goal.returns-in_err-taking-clause-admitted
returns-in_err-taking-clause-admitted c history day giver_are taker_are =
    let taker = c.args.taker.name.now in
    let none = c.in_err-taking.ensures in
    let unregistered = subst (λ rows. IfRegistered history taker rows (λ r. HasRuns history taker r.holdings)) none.0 taker_are in
    let refused = err_from_is_err_and c.from_residual-in_err-taking.result c.from_residual-in_err-taking.ensures.1 in
    rw (refused.1, refused.2) (inr (
      sym c.is_operator.ensures ∙ c.in_ok-require.ensures,
      inl (λ are. false≢true (sym unregistered ∙ are.1), none.1),
    ))

pub returns-in_err-require-2-clause-admitted : goal.returns-in_err-require-2-clause-admitted
returns-in_err-require-2-clause-admitted c history day giver_are taker_are =
    let giver = c.args.giver.name.now in
    let taker = c.args.taker.name.now in
    let gave = subst (λ rows. IfRegistered history giver rows (AnswersLoss history giver c.args.prefix.now)) c.in_ok-giving.ensures giver_are in
    let took = subst (λ rows. IfRegistered history taker rows (λ r. HasRuns history taker r.holdings)) c.in_ok-taking.ensures taker_are in
    let alike = c.in_err-require-2.ensures in
    let refused = err_from_is_err_and c.from_residual-in_err-require-2.result c.from_residual-in_err-require-2.ensures.1 in
    rw (refused.1, refused.2) (inr (
      sym c.is_operator.ensures ∙ c.in_ok-require.ensures,
      inr ((gave.0, took.0), inl (λ differ. true≢false (sym (not-false (same_name giver taker) (sym c.ne.ensures ∙ alike.0)) ∙ differ), alike.1)),
    ))

pub returns-in_err-require-3-clause-admitted : goal.returns-in_err-require-3-clause-admitted
returns-in_err-require-3-clause-admitted c history day giver_are taker_are =
    let giver = c.args.giver.name.now in
    let taker = c.args.taker.name.now in
    let gave = subst (λ rows. IfRegistered history giver rows (AnswersLoss history giver c.args.prefix.now)) c.in_ok-giving.ensures giver_are in
    let took = subst (λ rows. IfRegistered history taker rows (λ r. HasRuns history taker r.holdings)) c.in_ok-taking.ensures taker_are in
    let differ = not-true (same_name giver taker) (sym c.ne.ensures ∙ c.in_ok-require-2.ensures) in
    let unheld = c.in_err-require-3.ensures in
    let refused = err_from_is_err_and c.from_residual-in_err-require-3.result c.from_residual-in_err-require-3.ensures.1 in
    rw (refused.1, refused.2) (inr (
      sym c.is_operator.ensures ∙ c.in_ok-require.ensures,
      inr ((gave.0, took.0), inr (differ, inl (λ held. false≢true (sym unheld.0 ∙ (c.holds.ensures history giver gave.1.holdings).1 held), unheld.1))),
    ))

pub returns-clause-admitted : goal.returns-clause-admitted
returns-clause-admitted c history day giver_are taker_are =
    let giver = c.args.giver.name.now in
    let taker = c.args.taker.name.now in
    let gave = subst (λ rows. IfRegistered history giver rows (AnswersLoss history giver c.args.prefix.now)) c.in_ok-giving.ensures giver_are in
    let took = subst (λ rows. IfRegistered history taker rows (λ r. HasRuns history taker r.holdings)) c.in_ok-taking.ensures taker_are in
    let differ = not-true (same_name giver taker) (sym c.ne.ensures ∙ c.in_ok-require-2.ensures) in
    let held = (c.holds.ensures history giver gave.1.holdings).0 c.in_ok-require-3.ensures in
    ((sym c.is_operator.ensures ∙ c.in_ok-require.ensures, ((gave.0, took.0), (differ, (held, tt)))), (gave.1, took.1))

pub returns-clause-distinct : goal.returns-clause-distinct
returns-clause-distinct c = not-true (same_name c.args.giver.name.now c.args.taker.name.now) (sym c.ne.ensures ∙ c.in_ok-require-2.ensures)
