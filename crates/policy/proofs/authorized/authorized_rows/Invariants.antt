use Rattle.policy.proofs.Vocabulary.{take, AreAuthorized}
use Rattle.policy.proofs.authorized.authorized_rows.Given as goal

abbrev pub invariant-loop-auth : goal.invariant-loop-auth
invariant-loop-auth l = AreAuthorized l.rows (take l.auth-index l.auths)
