use Rattle.daily_vrps.proofs.Vocabulary.{◌↔◌, ◌⊎◌, take, Contains, Vrp, IsVrpOfSome}
use Rattle.daily_vrps.proofs.giving.push_entries.Given as goal

-- the VRPs of the entries so far are added
abbrev pub invariant-loop-entry : goal.invariant-loop-entry
invariant-loop-entry l =
    (v : Vrp) → Contains l.vrps.items v ↔ (Contains l.initial.vrps.items v ⊎ IsVrpOfSome (take l.entry-index l.entries) l.asn v)
