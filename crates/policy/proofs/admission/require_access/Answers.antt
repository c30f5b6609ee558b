use Rattle.policy.proofs.Vocabulary.{sym, ◌∙◌, ap, MatchResult-weaker, has_access}
use Rattle.policy.proofs.admission.require_access.Goals as goal

pub returns : goal.returns
returns c history h granted =
    let a = c.args in
    let same = sym (ap (λ gs. has_access gs a.day a.caller.now a.access) granted) ∙ sym c.has_access.ensures in
    MatchResult-weaker c.require.result c.require.ensures (λ _ holds. same ∙ holds) (λ rule denied. (same ∙ denied.0, denied.1))
