-- What is kept of a day: its VRPs after local exceptions, and the exceptions.
use Rattle.std.specs.Prelude.{◌≡◌, ◌↔◌, ℕ, List, Contains, refl}
use Rattle.std.specs.Coded.{Coded, code_by, coded×, coded_ℕ}
use Rattle.addr.specs.declared.vrp.Vrp.{Vrp}
use Rattle.payload.specs.VrpSet as set
use Rattle.registry.specs.DailyVrps.{IsAfterExceptions}
use Rattle.slurm.specs.Exceptions.{Exceptions}
use Rattle.slurm.specs.contracts.index.FilterIndex as index
use Rattle.slurm.specs.declared.filter.Filter.{Filter}

-- a day with a set of VRPs, with filters in an order, and with the set of the assertions
pub record KeptDay : Type 0 where
  pub day : ℕ
  pub vrps : set.VrpSet
  pub filters : List Filter
  pub asserted : set.VrpSet

abbrev pub day_code : Coded KeptDay
day_code =
    code_by (ℕ × (set.VrpSet × (List Filter × set.VrpSet)))
    (coded× coded_ℕ (coded× set.coded_set (coded× index.the_row.coded set.coded_set)))
    (λ kept. (kept.day, (kept.vrps, (kept.filters, kept.asserted))))
    (λ p. record { day = p.0; vrps = p.1.0; filters = p.1.1.0; asserted = p.1.1.1 })
    (λ _. refl)

-- the exceptions that are kept, the assertions rising
abbrev pub kept_exceptions : KeptDay → Exceptions
kept_exceptions kept = record { filters = kept.filters; assertions = set.items kept.asserted }

-- its filters are those of the exceptions, and its assertions are the same in any order
pub record HasExceptions (kept : KeptDay) (exceptions : Exceptions) : Type 0 where
  pub filters : kept.filters ≡ exceptions.filters
  pub assertions :
      (v : Vrp) → Contains (set.items kept.asserted) v ↔ Contains exceptions.assertions v

-- its VRPs are those that are given, after the exceptions that are kept
abbrev pub FollowsExceptions : (Vrp → Type 0) → KeptDay → Type 0
FollowsExceptions given kept =
    (v : Vrp) → Contains (set.items kept.vrps) v
    ↔ IsAfterExceptions (kept_exceptions kept) (given v) v
