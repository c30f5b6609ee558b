use Rattle.daily_vrps.proofs.Vocabulary.{◌↔◌, take, Contains, Vrp, AreJoined, IsWithSame}
use Rattle.payload.specs.VrpSet as set
use Rattle.daily_vrps.proofs.daily.DailyVrps.begin_all.Given as goal

-- the authorizations so far have joined
abbrev pub invariant-loop-auth : goal.invariant-loop-auth
invariant-loop-auth l = record {
  same : IsWithSame l.initial.self l.self;
  joined : (v : Vrp) → Contains (set.items l.self.vrps) v ↔ AreJoined l.initial.self (take l.auth-index l.auths) v;
}
