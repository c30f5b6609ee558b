use Rattle.daily_vrps.proofs.Vocabulary.{◌↔◌, take, Contains, Vrp, IsWithSame, IsLeftWithout, IsVrpOfSome}
use Rattle.payload.specs.VrpSet as set
use Rattle.daily_vrps.proofs.daily.DailyVrps.end_entries.Given as goal

-- what the entries so far leave is left
abbrev pub invariant-loop-entry : goal.invariant-loop-entry
invariant-loop-entry l = record {
  same : IsWithSame l.initial.self l.self;
  left : (v : Vrp) → Contains (set.items l.self.vrps) v ↔ IsLeftWithout l.initial.self (IsVrpOfSome (take l.entry-index l.entries) l.asn) l.begun v;
}
