use Rattle.policy.proofs.Vocabulary.{◌≡◌, true, refl, sym, ◌∙◌, ap, subst, Option, IsSomeAnd, option_copied, false≢true, is_permitted_terms, grant_terms, Auth}
use Rattle.policy.proofs.RowsLemmas.{found-from, found-to}
use Rattle.policy.proofs.admission.found_with_access.Goals as goal

pub returns-then-is_permitted_terms-clause-judged : goal.returns-then-is_permitted_terms-clause-judged
returns-then-is_permitted_terms-clause-judged c history h n are =
    let a = c.args in
    let x = c.in-Some.auth.now in
    let P : Auth → Type 0 = λ y. is_permitted_terms (grant_terms history h) a.day a.caller.now a.access y ≡ true in
    let found = ap option_copied c.in-Some.is in
    let reached = sym (ap (λ gs. is_permitted_terms gs a.day a.caller.now a.access x) are.grants) ∙ sym c.is_permitted_terms.ensures ∙ c.if-is_permitted_terms.true in
    (found, found-to history h n a.grants.now _ P are (subst (λ (o : Option Auth). IsSomeAnd o P) (sym found) reached))

pub returns-else-is_permitted_terms-clause-judged : goal.returns-else-is_permitted_terms-clause-judged
returns-else-is_permitted_terms-clause-judged c history h n are =
    let a = c.args in
    let x = c.in-Some.auth.now in
    let P : Auth → Type 0 = λ y. is_permitted_terms (grant_terms history h) a.day a.caller.now a.access y ≡ true in (
      λ of.
          let reached = subst (λ (o : Option Auth). IsSomeAnd o P) (ap option_copied c.in-Some.is) (found-from history h n a.grants.now _ P are of) in
          let same = ap (λ gs. is_permitted_terms gs a.day a.caller.now a.access x) are.grants in
          false≢true (sym c.if-is_permitted_terms.false ∙ c.is_permitted_terms.ensures ∙ same ∙ reached),
      refl,
    )

pub returns-in-None-clause-judged : goal.returns-in-None-clause-judged
returns-in-None-clause-judged c history h n are =
    let a = c.args in
    let P : Auth → Type 0 = λ y. is_permitted_terms (grant_terms history h) a.day a.caller.now a.access y ≡ true in
    (λ of. subst (λ (o : Option Auth). IsSomeAnd o P) (ap option_copied c.in-None.is) (found-from history h n a.grants.now _ P are of), refl)
