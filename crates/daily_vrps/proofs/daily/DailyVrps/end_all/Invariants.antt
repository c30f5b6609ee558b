use Rattle.daily_vrps.proofs.Vocabulary.{◌↔◌, take, Contains, Vrp, ended, IsSpared, IsWithSame}
use Rattle.payload.specs.VrpSet as set
use Rattle.daily_vrps.proofs.daily.DailyVrps.end_all.Given as goal

-- of the authorizations so far those that end are spared or gone
abbrev pub invariant-loop-auth : goal.invariant-loop-auth
invariant-loop-auth l = record {
  same : IsWithSame l.initial.self l.self;
  left : (v : Vrp) → Contains (set.items l.self.vrps) v ↔ (Contains (set.items l.initial.self.vrps) v × IsSpared l.initial.self (ended l.edit (take l.auth-index l.auths)) l.begun v);
}
