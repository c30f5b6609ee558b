use Rattle.policy.proofs.Vocabulary.{inl, refl, sym, ◌∙◌, ap, filter, option_copied, false≢true, err_from_is_err_and, Look, is_permitted_terms, auths_if_any, grant_terms}
use Rattle.policy.proofs.RowsLemmas.{listed-are}
use Rattle.policy.proofs.sight.see_all.Goals as goal

pub returns-clause-part : goal.returns-clause-part
returns-clause-part c history h are =
    let a = c.args in
    let grants = c.grants_of-grants.ensures ∙ are.grants in
    let look = c.in_ok-require_access.ensures history h grants in
    let seen = c.in_ok-permitted_auths.ensures
    ∙ ap (λ gs. filter (λ x. is_permitted_terms gs a.day a.caller.now Look x) c.auths_of.result.now) grants
    ∙ ap (filter (λ x. is_permitted_terms (grant_terms history h) a.day a.caller.now Look x)) c.auths_of.ensures in
    ((look, tt), (auths_if_any (option_copied a.rows), are.auths, seen))

pub returns-clause-rows : goal.returns-clause-rows
returns-clause-rows c charter history h legal are = returns-clause-part c history h (listed-are charter history h (option_copied c.args.rows) legal are)

pub returns-in_err-require_access-clause-rows : goal.returns-in_err-require_access-clause-rows
returns-in_err-require_access-clause-rows c charter history h legal are =
    let granted = c.grants_of-grants.ensures ∙ (listed-are charter history h (option_copied c.args.rows) legal are).grants in
    let denied = c.in_err-require_access.ensures history h granted in
    let refused = err_from_is_err_and c.from_residual.result c.from_residual.ensures.1 in
    rw (refused.1, refused.2) (inl (λ has. false≢true (sym denied.0 ∙ has), denied.1), refl)

pub returns-in_err-permitted_auths-clause-rows : goal.returns-in_err-permitted_auths-clause-rows
returns-in_err-permitted_auths-clause-rows c charter history h legal are =
    let granted = c.grants_of-grants.ensures ∙ (listed-are charter history h (option_copied c.args.rows) legal are).grants in
    let refused = err_from_is_err_and c.from_residual-in_err-permitted_auths.result c.from_residual-in_err-permitted_auths.ensures.1 in
    rw (refused.1, refused.2) (c.in_ok-require_access.ensures history h granted, tt)
