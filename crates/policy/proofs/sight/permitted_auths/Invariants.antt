use Rattle.policy.proofs.Vocabulary.{◌≡◌, filter, take, Look, is_permitted_terms}
use Rattle.policy.proofs.sight.permitted_auths.Given as goal

abbrev pub invariant-loop-auth : goal.invariant-loop-auth
invariant-loop-auth l =
    l.seen.items ≡ filter (λ x. is_permitted_terms l.grants l.day l.caller Look x) (take l.auth-index l.auths)
