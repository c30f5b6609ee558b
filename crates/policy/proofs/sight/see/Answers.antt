use Rattle.policy.proofs.Vocabulary.{inl, inr, sym, ◌∙◌, ap, option_copied, false≢true, MatchResult-weaker, err_from_is_err_and, auth_of_number}
use Rattle.policy.proofs.RowsLemmas.{grants-are, numbered-are}
use Rattle.policy.proofs.sight.see.Goals as goal

pub returns-clause-part : goal.returns-clause-part
returns-clause-part c history h are =
    let n = c.args.number in
    let grants = c.grants_of-grants.ensures ∙ are.grants in
    let found = c.auth_of_number-found.ensures ∙ ap (auth_of_number n) c.auths_of.ensures in
    let look = c.in_ok-require_access.ensures history h grants in
    MatchResult-weaker c.found_with_access.result (c.found_with_access.ensures.judged history h n (rw (c.grants_of-grants.ensures, found) are))
    (λ x seen. ((look, (seen.1, tt)), (are.auth.0, are.auth.1, are.auth.2 ∙ (sym found ∙ seen.0))))
    (λ rule hidden. inr (look, inl hidden))

pub returns-clause-rows : goal.returns-clause-rows
returns-clause-rows c charter history h legal are = returns-clause-part c history h (numbered-are charter history h c.args.number (option_copied c.args.rows) legal are)

pub returns-in_err-require_access-clause-rows : goal.returns-in_err-require_access-clause-rows
returns-in_err-require_access-clause-rows c charter history h legal are =
    let granted = c.grants_of-grants.ensures ∙ grants-are charter history h (option_copied c.args.rows) legal are in
    let denied = c.in_err-require_access.ensures history h granted in
    let refused = err_from_is_err_and c.from_residual.result c.from_residual.ensures.1 in
    rw (refused.1, refused.2) (inl (λ has. false≢true (sym denied.0 ∙ has), denied.1))
