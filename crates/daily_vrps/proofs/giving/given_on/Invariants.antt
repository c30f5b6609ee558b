use Rattle.daily_vrps.proofs.Vocabulary.{◌↔◌, take, Contains, Vrp, AreGivingOn}
use Rattle.daily_vrps.proofs.giving.given_on.Given as goal

-- the VRPs are those that the authorizations so far give
abbrev pub invariant-loop-auth : goal.invariant-loop-auth
invariant-loop-auth l = (v : Vrp) → Contains l.vrps.items v ↔ AreGivingOn (take l.auth-index l.auths) l.day v
