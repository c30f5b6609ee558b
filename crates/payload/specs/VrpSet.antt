-- Finite sets of VRPs, which give their VRPs rising. They are std's finite maps with nothing at each key:
-- its finite sets do not say in which order they give their items.
use Rattle.std.specs.Prelude.{◌≡◌, ℕ, Bool, true, false, List, [], ◌∷◌, refl}
use Rattle.std.specs.Coded.{Coded, coded×, coded_ℕ, coded_bool}
use Rattle.std.specs.FinMap as map
use base.Stored.{coded_unit, coded_via}
use mathlib.Core.Path.{ap}
use Rattle.addr.specs.declared.family.Family.{Family}
use Rattle.addr.specs.declared.family.Family.TheVariants.{V4, V6}
use Rattle.addr.specs.declared.vrp.Vrp.{Vrp}
use Rattle.addr.specs.Address.{same_prefix}
use Rattle.addr.specs.Order.{vrp_cmp, same_vrp}

abbrev pub VrpSet : Type 0
VrpSet = map.FinMap vrp_cmp (Unit {0})

abbrev pub empty : VrpSet
empty = map.empty

abbrev pub has_vrp : VrpSet → Vrp → Bool
has_vrp s v = map.contains_key s v

abbrev pub insert : VrpSet → Vrp → VrpSet
insert s v = map.insert s v tt

abbrev pub remove : VrpSet → Vrp → VrpSet
remove s v = map.remove s v

-- the VRPs, rising, each once
abbrev pub items : VrpSet → List Vrp
items s = map.keys s

-- the set of the VRPs of any list
abbrev pub from_list : List Vrp → VrpSet
from_list [] = empty
from_list (v ∷ vs) = insert (from_list vs) v

abbrev pub is_six : Family → Bool
is_six V4 = false
is_six V6 = true

same_family : (f g : Family) → is_six f ≡ is_six g → f ≡ g
same_family V4 V4 e = refl
same_family V6 V6 e = refl
same_family V4 V6 e = cc
same_family V6 V4 e = cc

abbrev pub numbers_of : Vrp → Bool × (ℕ × (ℕ × (ℕ × ℕ)))
numbers_of v = (is_six v.prefix.family, (v.prefix.first, (v.prefix.length, (v.max, v.asn.0))))

pub same_numbers : (v w : Vrp) → numbers_of v ≡ numbers_of w → v ≡ w
same_numbers v w e =
    same_vrp v w
    (same_prefix _ _ (same_family _ _ (ap (λ t. t.0) e)) (ap (λ t. t.1.0) e) (ap (λ t. t.1.1.0) e))
    (ap (λ t. t.1.1.1.0) e) (ap (λ t. record { 0 = t.1.1.1.1 }) e)

-- a VRP is stored as its numbers
abbrev pub coded_vrp : Coded Vrp
coded_vrp = coded_via (coded× coded_bool (coded× coded_ℕ (coded× coded_ℕ (coded× coded_ℕ coded_ℕ)))) numbers_of same_numbers

abbrev pub coded_set : Coded VrpSet
coded_set = map.code coded_vrp coded_unit
