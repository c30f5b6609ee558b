use Rattle.policy.proofs.Vocabulary.{ℕ, ◌+◌, ◌<◌, sym, ◌∙◌, ap, subst, not-true, Alter, LAST_NUMBER, are_permitted, gives_access, fit_lengths, numbered_terms, grant_terms}
use Rattle.policy.proofs.CarryTerms.{carries-create}
use Rattle.policy.proofs.RowsLemmas.{registered-by_grant}
use Rattle.policy.proofs.creation.new_number.Goals as goal

pub returns-clause-judged : goal.returns-clause-judged
returns-clause-judged c charter history h legal are =
    let a = c.args in
    let t = a.terms.now in
    let asked = c.as_slice-entries.ensures.items in
    let has = c.in_ok-require_access.ensures history h are.grants in
    let permitted = ap (λ gs. are_permitted gs a.day a.caller.now Alter c.as_slice-entries.result.now) are.grants
    ∙ ap (are_permitted (grant_terms history h) a.day a.caller.now Alter) asked in
    let scope = sym (c.are_permitted-permitted.ensures ∙ permitted) ∙ c.in_ok-require.ensures in
    let dates = c.are_dates.ensures.0 c.in_ok-require-2.ensures in
    let length = sym (c.fit_lengths.ensures ∙ ap fit_lengths asked) ∙ c.in_ok-require-3.ensures in
    let holds = c.in_ok-require-4.ensures in
    let held = are.holds.0 holds in
    let gives_none = not-true a.answers.gives c.in_ok-require-5.ensures in
    let same = (are.gives holds).0 gives_none in
    let few = c.has_room.ensures.0 c.in_ok-require-6.ensures in
    let below = subst (λ (k : ℕ). k < LAST_NUMBER) are.created few.1 in
    let made = ap (λ (k : ℕ). numbered_terms t (k + 1)) are.created in
    record {
      verdict = (has, (scope, (dates, (length, (held, (same, (((are.is_full holds gives_none).0 few.0, below), tt)))))));
      number = ap (λ x. x.number) made;
      carries = carries-create history a.day a.caller.now h t _ (registered-by_grant charter history h (gives_access a.day a.caller.now Alter) legal has) held made;
    }
