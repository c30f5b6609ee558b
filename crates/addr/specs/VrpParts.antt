-- A prefix with its maxLength, and a VRP out of its parts.
use Rattle.std.specs.Prelude.{◌≡◌, ℕ, ◌≤◌, Bool, ◌==◌, ◌&&◌, Option, Some, None}
use Rattle.std.proofs.Math.Decide.{dec_le}
use Rattle.addr.specs.Family.{width}
use Rattle.addr.specs.Address.{prefix_eq}
use Rattle.addr.specs.declared.prefix.Prefix.{Prefix}
use Rattle.addr.specs.declared.asn.Asn.{Asn}
use Rattle.addr.specs.declared.roa_prefix.RoaPrefix.{RoaPrefix}
use Rattle.addr.specs.declared.vrp.Vrp.{Vrp}

-- the entry has this prefix and maxLength
abbrev pub is_entry : Prefix → ℕ → RoaPrefix → Bool
is_entry p max e = prefix_eq e.prefix p && (e.max == max)

-- v is the VRP of the entry for this AS
abbrev pub IsVrpOfEntry : RoaPrefix → Asn → Vrp → Type 0
IsVrpOfEntry e asn v = (v.prefix ≡ e.prefix) × (v.max ≡ e.max) × (v.asn ≡ asn)

-- the VRP of this maxLength, if it lies between the prefix's length and the family's width
abbrev pub vrp_if : (p : Prefix) (max : ℕ) (asn : Asn)
    → Dec (p.length ≤ max) → Dec (max ≤ width p.family) → Option Vrp
vrp_if p max asn (yes low) (yes high) =
    Some (record { prefix = p; max = max; asn = asn; at_least_length = low; at_most_width = high })
vrp_if p max asn _ _ = None

abbrev pub vrp_with : Prefix → ℕ → Asn → Option Vrp
vrp_with p max asn = vrp_if p max asn (dec_le p.length max) (dec_le max (width p.family))
