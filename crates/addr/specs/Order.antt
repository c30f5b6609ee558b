-- The order of families, prefixes and VRPs, the one in which things are sorted everywhere: by family,
-- address, length, maxLength and AS.
use Rattle.std.specs.Prelude.{◌≡◌, ◌≤◌, ◌↔◌, Bool, IsTrue}
use Rattle.std.specs.declared.cmp.Ordering.{Ordering}
use Rattle.std.specs.declared.cmp.Ordering.TheVariants.{Less, Equal, Greater}
use Rattle.std.specs.Ordering.{nat_cmp, ordering_then}
use Rattle.std.specs.Cmp.{IsTotalOrder}
use Rattle.std.specs.Coded.{le_prop}
use Rattle.std.specs.FinMap.{IsAntisymmetric}
use mathlib.Core.HLevel.{is_prop→PathP}
use Rattle.addr.specs.Family.{width}
use Rattle.addr.specs.declared.family.Family.{Family}
use Rattle.addr.specs.declared.family.Family.TheVariants.{V4, V6}
use Rattle.addr.specs.declared.prefix.Prefix.{Prefix}
use Rattle.addr.specs.declared.vrp.Vrp.{Vrp}

-- IPv4 before IPv6
abbrev pub family_cmp : Family → Family → Ordering
family_cmp V4 V4 = Equal
family_cmp V4 V6 = Less
family_cmp V6 V4 = Greater
family_cmp V6 V6 = Equal

abbrev pub prefix_cmp : Prefix → Prefix → Ordering
prefix_cmp p q =
    ordering_then (family_cmp p.family q.family)
    (ordering_then (nat_cmp p.first q.first) (nat_cmp p.length q.length))

abbrev pub vrp_cmp : Vrp → Vrp → Ordering
vrp_cmp v w =
    ordering_then (prefix_cmp v.prefix w.prefix)
    (ordering_then (nat_cmp v.max w.max) (nat_cmp v.asn.0 w.asn.0))

-- a total order, in which two tie only where they are equal
pub record IsOrder {T : Type 0} (cmp : T → T → Ordering) : Type 0 where
  pub total : IsTotalOrder cmp
  pub exact : IsAntisymmetric cmp

-- the test passes where the two are equal, and there only
abbrev pub TestsEquality : {T : Type 0} → (T → T → Bool) → Type 0
TestsEquality {T} eq = (x y : T) → IsTrue (eq x y) ↔ (x ≡ y)

-- VRPs of one prefix, maxLength and AS are equal
pub same_vrp : (v w : Vrp) → v.prefix ≡ w.prefix → v.max ≡ w.max → v.asn ≡ w.asn → v ≡ w
same_vrp v w prefix max asn = λ i. record {
  prefix = prefix i;
  max = max i;
  asn = asn i;
  at_least_length = is_prop→PathP (λ j. (prefix j).length ≤ max j) (λ j. le_prop) v.at_least_length w.at_least_length i;
  at_most_width = is_prop→PathP (λ j. max j ≤ width (prefix j).family) (λ j. le_prop) v.at_most_width w.at_most_width i;
}
