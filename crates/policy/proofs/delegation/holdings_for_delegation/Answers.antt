use Rattle.policy.proofs.Vocabulary.{sym, ◌∙◌, ap, inl, inr, subst, is_some, IfSome, not-true, false≢true, when_false, err_from_is_err_and, IsFree, HasRuns}
use Rattle.policy.proofs.delegation.holdings_for_delegation.Goals as goal

pub returns-in_err-held : goal.returns-in_err-held
returns-in_err-held c history day h are =
    let none = c.in_err-held.ensures in
    let refused = err_from_is_err_and c.from_residual-in_err-held.result c.from_residual-in_err-held.ensures.1 in
    rw (refused.1, refused.2) (inr (
      sym c.is_operator.ensures ∙ c.in_ok-require.ensures,
      inl (λ is. false≢true (sym (ap is_some none.0) ∙ are.registered ∙ is), none.1),
    ))

pub returns : goal.returns
returns c history day h are =
    let p = c.args.prefix.now in
    let some = c.in_ok-held.ensures in
    let pool = c.has_in_pool.ensures.0 c.in_ok-require-2.ensures in
    let free = when_false (IsFree history p → ⊥) (IsFree history p) (not-true c.args.taken c.in_ok-require-3.ensures) are.free in
    ((sym c.is_operator.ensures ∙ c.in_ok-require.ensures, (sym are.registered ∙ ap is_some some, (pool, (free, tt)))), subst (λ runs. IfSome runs (HasRuns history h)) some are.holdings)
