use Rattle.policy.proofs.Vocabulary.{◌||◌, sym, ◌∙◌, ap, Manage, grant_terms, has_access}
use Rattle.policy.proofs.admission.is_steward.Goals as goal

pub returns-else-is_operator : goal.returns-else-is_operator
returns-else-is_operator c history h granted =
    let a = c.args in
    c.has_access.ensures ∙ ap (λ gs. has_access gs a.day a.caller.now Manage) granted
    ∙ ap (λ b. b || has_access (grant_terms history h) a.day a.caller.now Manage) (sym c.if-is_operator.false ∙ c.is_operator.ensures)
