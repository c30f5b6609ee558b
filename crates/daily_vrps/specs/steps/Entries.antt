-- What becomes of a day that is kept where entries of an authorization end and begin.
use Rattle.std.specs.Prelude.{◌⊎◌, List, Any, Contains}
use Rattle.addr.specs.declared.asn.Asn.{Asn}
use Rattle.addr.specs.declared.vrp.Vrp.{Vrp}
use Rattle.payload.specs.VrpSet as set
use Rattle.addr.specs.VrpParts.{IsVrpOfEntry}
use Rattle.registry.specs.declared.authorization.Auth.{Auth}
use Rattle.addr.specs.declared.roa_prefix.RoaPrefix.{RoaPrefix}
use Rattle.slurm.specs.Filter.{FilterMatches}
use Rattle.daily_vrps.specs.Giving.{AreGivingOn}
use Rattle.daily_vrps.specs.KeptDay.{KeptDay}

-- v is the VRP of one of the entries for the AS
abbrev pub IsVrpOfSome : List RoaPrefix → Asn → Vrp → Type 0
IsVrpOfSome es asn v = (e : RoaPrefix) × Contains es e × IsVrpOfEntry e asn v

-- it was there, or it is one of these and no filter matches it
abbrev pub IsJoinedBy : KeptDay → (Vrp → Type 0) → Vrp → Type 0
IsJoinedBy kept These v =
    Contains (set.items kept.vrps) v
    ⊎ (These v × ¬ Any (λ filter. FilterMatches filter v) kept.filters)

-- it was there, and it is none of these, or one that begins gives it on the day, or it is asserted
abbrev pub IsLeftWithout : KeptDay → (Vrp → Type 0) → List Auth → Vrp → Type 0
IsLeftWithout kept These begun v =
    Contains (set.items kept.vrps) v
    × ((¬ These v) ⊎ (AreGivingOn begun kept.day v ⊎ Contains (set.items kept.asserted) v))
