use Rattle.policy.proofs.Vocabulary.{◌≡◌, ◌≤◌, true, not, refl, sym, ◌∙◌, ap, inl, inr, subst, Option, false≢true, not-true, err_from_is_err_and, Auth, Alter, AnswersAmend, gives_access, maxes_fit, OfNumber}
use Rattle.policy.proofs.RowsLemmas.{found-to, found-from, registered-by_grant}
use Rattle.policy.proofs.AmendLemmas.{SharesWithNoOther, only-to, only-from}
use Rattle.policy.proofs.CarryTerms.{carries-amend}
use Rattle.policy.proofs.amendment.auth_to_amend.Goals as goal

pub returns-in_err-auth-clause-judged : goal.returns-in_err-auth-clause-judged
returns-in_err-auth-clause-judged c charter history h n asked same legal are =
    let p = err_from_is_err_and c.from_residual-in_err-auth.result c.from_residual-in_err-auth.ensures.1 in
    rw (p.1, p.2) (inr (c.in_ok-require_access.ensures history h are.number.grants, inl (c.in_err-auth.ensures.judged history h n are.number)))

pub returns-in_err-require-clause-judged : goal.returns-in_err-require-clause-judged
returns-in_err-require-clause-judged c charter history h n asked same legal are =
    let a = c.args in
    let until = a.until in
    let p = err_from_is_err_and c.from_residual-in_err-require.result c.from_residual-in_err-require.ensures.1 in
    let has = c.in_ok-require_access.ensures history h are.number.grants in
    let number = c.in_ok-auth.ensures.judged history h n are.number in
    let x = c.in_ok-auth.auth.now in
    let of_x = subst (λ (o : Option Auth). AnswersAmend history h n asked.items a.grants.now o a.is_shared) number.0 are in
    let no_dates : OfNumber history h n (λ y. (y.from ≤ until) × (a.day ≤ until)) → ⊥ = λ of.
    false≢true (sym c.in_err-require.ensures.0 ∙ c.are_dates.ensures.1 (found-from history h n a.grants.now _ (λ y. (y.from ≤ until) × (a.day ≤ until)) of_x.number of)) in
    rw (p.1, p.2) (inr (has, inr (number.1, inl (no_dates, c.in_err-require.ensures.1))))

pub returns-in_err-require-2-clause-judged : goal.returns-in_err-require-2-clause-judged
returns-in_err-require-2-clause-judged c charter history h n asked same legal are =
    let a = c.args in
    let until = a.until in
    let p = err_from_is_err_and c.from_residual-in_err-require-2.result c.from_residual-in_err-require-2.ensures.1 in
    let has = c.in_ok-require_access.ensures history h are.number.grants in
    let number = c.in_ok-auth.ensures.judged history h n are.number in
    let x = c.in_ok-auth.auth.now in
    let of_x = subst (λ (o : Option Auth). AnswersAmend history h n asked.items a.grants.now o a.is_shared) number.0 are in
    let dates = found-to history h n a.grants.now _ (λ y. (y.from ≤ until) × (a.day ≤ until)) of_x.number (c.are_dates.ensures.0 c.in_ok-require.ensures) in
    let fits = ap (λ ms. maxes_fit ms x.entries) same ∙ sym c.fits_maxes.ensures in
    let no_length : OfNumber history h n (λ y. maxes_fit asked.items y.entries ≡ true) → ⊥ = λ of.
    let length = found-from history h n a.grants.now _ (λ y. maxes_fit asked.items y.entries ≡ true) of_x.number of in
    false≢true (sym c.in_err-require-2.ensures.0 ∙ sym fits ∙ length) in
    rw (p.1, p.2) (inr (has, inr (number.1, inr (dates, inl (no_length, c.in_err-require-2.ensures.1)))))

pub returns-in_err-require-3-clause-judged : goal.returns-in_err-require-3-clause-judged
returns-in_err-require-3-clause-judged c charter history h n asked same legal are =
    let a = c.args in
    let until = a.until in
    let p = err_from_is_err_and c.from_residual-in_err-require-3.result c.from_residual-in_err-require-3.ensures.1 in
    let has = c.in_ok-require_access.ensures history h are.number.grants in
    let number = c.in_ok-auth.ensures.judged history h n are.number in
    let x = c.in_ok-auth.auth.now in
    let of_x = subst (λ (o : Option Auth). AnswersAmend history h n asked.items a.grants.now o a.is_shared) number.0 are in
    let dates = found-to history h n a.grants.now _ (λ y. (y.from ≤ until) × (a.day ≤ until)) of_x.number (c.are_dates.ensures.0 c.in_ok-require.ensures) in
    let fits = ap (λ ms. maxes_fit ms x.entries) same ∙ sym c.fits_maxes.ensures ∙ c.in_ok-require-2.ensures in
    let length = found-to history h n a.grants.now _ (λ y. maxes_fit asked.items y.entries ≡ true) of_x.number fits in
    let not_only : SharesWithNoOther history h n asked.items until → ⊥ = λ of.
    let none = (of_x.shared fits).1 (only-from history h n a.grants.now x asked.items until of_x.number of) in
    false≢true (sym c.in_err-require-3.ensures.0 ∙ ap not none) in
    rw (p.1, p.2) (inr (has, inr (number.1, inr (dates, inr (length, inl (not_only, c.in_err-require-3.ensures.1))))))

pub returns-clause-judged : goal.returns-clause-judged
returns-clause-judged c charter history h n asked same legal are =
    let a = c.args in
    let until = a.until in
    let has = c.in_ok-require_access.ensures history h are.number.grants in
    let number = c.in_ok-auth.ensures.judged history h n are.number in
    let x = c.in_ok-auth.auth.now in
    let of_x = subst (λ (o : Option Auth). AnswersAmend history h n asked.items a.grants.now o a.is_shared) number.0 are in
    let dates = found-to history h n a.grants.now _ (λ y. (y.from ≤ until) × (a.day ≤ until)) of_x.number (c.are_dates.ensures.0 c.in_ok-require.ensures) in
    let fits = ap (λ ms. maxes_fit ms x.entries) same ∙ sym c.fits_maxes.ensures ∙ c.in_ok-require-2.ensures in
    let length = found-to history h n a.grants.now _ (λ y. maxes_fit asked.items y.entries ≡ true) of_x.number fits in
    let none = (of_x.shared fits).0 (not-true a.is_shared c.in_ok-require-3.ensures) in
    let only = only-to history h n a.grants.now x asked.items until of_x.number none in
    let registered = registered-by_grant charter history h (gives_access a.day a.caller.now Alter) legal has in
    let found = of_x.number.auth in
    ((has, (number.1, (dates, (length, (only, tt))))), carries-amend history a.day a.caller.now h n asked until found.0 x _ registered found.1 found.2 refl)
