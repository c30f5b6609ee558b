use Rattle.daily_vrps.proofs.Vocabulary.{take, AreGivingOn}
use Rattle.daily_vrps.proofs.giving.is_given.Given as goal

-- none of the authorizations so far gives the VRP
abbrev pub invariant-loop-auth : goal.invariant-loop-auth
invariant-loop-auth l = ¬ AreGivingOn (take l.auth-index l.auths) l.day l.vrp
