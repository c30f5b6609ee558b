-- Route origin validation (RFC 6811 section 2). A VRP covers a route where the route's prefix lies in
-- the VRP's; it matches where it covers, the route's prefix is no longer than the VRP's maxLength, and
-- the route's origin is an AS, is not AS 0, and is the VRP's.
use Rattle.std.specs.Prelude.{◌≡◌, ℕ, Bool, true, false, ◌&&◌, ◌==◌, not, nat_le, List, codes, if◌then◌else◌}
use Rattle.std.specs.List.{list_any}
use Rattle.addr.specs.Address.{contains}
use Rattle.addr.specs.declared.asn.Asn.{Asn}
use Rattle.addr.specs.declared.route.Origin.{Origin}
use Rattle.addr.specs.declared.route.Origin.TheVariants.{As, None as NoOrigin}
use Rattle.addr.specs.declared.route.Route.{Route}
use Rattle.addr.specs.declared.vrp.Vrp.{Vrp}

pub data ValidationState : Type 0 where
  Valid : ValidationState
  Invalid : ValidationState
  NotFound : ValidationState

-- the state's word
abbrev pub state_text : ValidationState → List ℕ
state_text Valid = codes "Valid"
state_text Invalid = codes "Invalid"
state_text NotFound = codes "NotFound"

abbrev pub covers : Vrp → Route → Bool
covers v r = contains v.prefix r.prefix

-- the origin is an AS, is not AS 0, and is this one
abbrev pub is_from : Origin → Asn → Bool
is_from (As asn) from = not (asn.0 == 0) && (asn.0 == from.0)
is_from NoOrigin from = false

abbrev pub matches : Vrp → Route → Bool
matches v r = covers v r && (nat_le r.prefix.length v.max && is_from r.origin v.asn)

-- the state of a route over a set of VRPs: NotFound where none covers it, Valid where some matches,
-- Invalid where some covers it and none matches
abbrev pub HasState : (Vrp → Type 0) → Route → ValidationState → Type 0
HasState Vrps r Valid = (v : Vrp) × Vrps v × (matches v r ≡ true)
HasState Vrps r Invalid = ((v : Vrp) × Vrps v × (covers v r ≡ true)) × ((v : Vrp) → Vrps v → matches v r ≡ false)
HasState Vrps r NotFound = (v : Vrp) → Vrps v → covers v r ≡ false

-- the state over a finite set, given as a list
abbrev pub validation_state : List Vrp → Route → ValidationState
validation_state vrps r =
    if list_any (λ v. matches v r) vrps then Valid else
    if list_any (λ v. covers v r) vrps then Invalid else NotFound
