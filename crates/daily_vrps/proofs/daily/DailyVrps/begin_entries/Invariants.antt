use Rattle.daily_vrps.proofs.Vocabulary.{◌↔◌, take, Contains, Vrp, IsWithSame, IsJoinedBy, IsVrpOfSome}
use Rattle.payload.specs.VrpSet as set
use Rattle.daily_vrps.proofs.daily.DailyVrps.begin_entries.Given as goal

-- the entries so far have joined
abbrev pub invariant-loop-entry : goal.invariant-loop-entry
invariant-loop-entry l = record {
  same : IsWithSame l.initial.self l.self;
  joined : (v : Vrp) → Contains (set.items l.self.vrps) v ↔ IsJoinedBy l.initial.self (IsVrpOfSome (take l.entry-index l.entries) l.asn) v;
}
