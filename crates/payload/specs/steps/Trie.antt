-- VRPs and routes on the nodes of a trie.
use Rattle.std.specs.Prelude.{refl, ℕ, zero, suc, ◌+◌, ◌-◌, ◌^◌, ◌≤◌, Bool, true, false, ◌==◌, ◌&&◌, nat_le, if◌then◌else◌, List, [], ◌∷◌, ◌++◌, Option, Some, None}
use Rattle.std.specs.List.{filter_map, list_any}
use Rattle.std.specs.Option.{option_and_then}
use Rattle.std.proofs.Common.{lit≤}
use Rattle.addr.specs.Address.{bit_of}
use Rattle.addr.specs.Family.{width}
use Rattle.addr.specs.OriginValidation.{ValidationState, Valid, Invalid, NotFound, covers, is_from, matches}
use Rattle.addr.specs.PrefixText.{prefix_with}
use Rattle.addr.specs.declared.asn.Asn.{Asn}
use Rattle.addr.specs.declared.family.Family.{Family}
use Rattle.addr.specs.declared.family.Family.TheVariants.{V4, V6}
use Rattle.addr.specs.declared.prefix.Prefix.{Prefix}
use Rattle.addr.specs.declared.route.Route.{Route}
use Rattle.addr.specs.declared.vrp.Vrp.{Vrp}
use Rattle.addr.specs.VrpParts.{vrp_with}
use Rattle.payload.specs.declared.originator.Originator.{Originator}
use Rattle.payload.specs.steps.Tree.{Tree, Leaf, Fork, has_on_path}

abbrev pub originator_of : Vrp → Originator
originator_of v = record { max = v.max; asn = v.asn }

-- an originator of a prefix that contains the route's is that of a VRP that matches the route
abbrev pub authorizes : Route → Originator → Bool
authorizes route o = nat_le route.prefix.length o.max && is_from route.origin o.asn

-- the state of a route that no VRP so far matches
abbrev pub state_below : ValidationState → Bool → ValidationState
state_below above is_covered = if is_covered then Invalid else above

-- the state of a route by the VRPs on a path, where it is `above` by those before them, which do not match
abbrev pub walked_state : Route → ValidationState → List Bool → Tree → ValidationState
walked_state route above path t =
    if has_on_path (authorizes route) path t then Valid
    else state_below above (has_on_path (λ o. true) path t)

-- the state of a route, where it is `above` by some VRPs, and of others some match it, and some cover it
abbrev pub joined_state : ValidationState → Bool → Bool → ValidationState
joined_state Valid is_matched is_covered = Valid
joined_state Invalid is_matched is_covered = if is_matched then Valid else Invalid
joined_state NotFound is_matched is_covered = if is_matched then Valid else if is_covered then Invalid else NotFound

-- the same, where the others are those of a list that pass a test
abbrev pub state_among : ValidationState → (Vrp → Bool) → Route → List Vrp → ValidationState
state_among above passes route vrps =
    joined_state above (list_any (λ v. passes v && matches v route) vrps) (list_any (λ v. passes v && covers v route) vrps)

-- the last n bits of the prefix
abbrev pub last_bits : Prefix → ℕ → List Bool
last_bits p zero = []
last_bits p (suc n) = (bit_of p (p.length - suc n) == 1) ∷ last_bits p n

-- the bits of the prefix from this place on
abbrev pub bits_from : Prefix → ℕ → List Bool
bits_from p at = last_bits p (p.length - at)

-- ---- the VRPs of a tree

-- the VRP of these parts, if there is one
abbrev pub vrp_of_parts : Originator → Prefix → Option Vrp
vrp_of_parts o p = vrp_with p o.max o.asn

abbrev pub vrp_at : Family → ℕ → ℕ → Originator → Option Vrp
vrp_at family first len o =
    option_and_then (vrp_of_parts o) (prefix_with (record { family = family; address = first; length = len }))

-- the VRPs of a tree whose root is at the prefix of this first address and length: those of its node, those of the
-- prefix's lower half and those of its upper half
abbrev pub vrps_below : Family → ℕ → ℕ → Tree → List Vrp
vrps_below family first len Leaf = []
vrps_below family first len (Fork originators low high) =
    filter_map (vrp_at family first len) originators
    ++ (vrps_below family first (len + 1) low
    ++ vrps_below family (first + 2 ^ (width family - (len + 1))) (len + 1) high)

-- the VRPs of a tree whose root is at the prefix
abbrev pub vrps_at : Prefix → Tree → List Vrp
vrps_at p t = vrps_below p.family p.first p.length t

-- those of its node
abbrev pub node_vrps : Prefix → List Originator → List Vrp
node_vrps p originators = filter_map (vrp_at p.family p.first p.length) originators

-- the first address of the half of the prefix whose next bit is this one
abbrev pub half_first : Bool → Prefix → ℕ
half_first false p = p.first
half_first true p = p.first + 2 ^ (width p.family - (p.length + 1))

-- the VRPs of a tree whose root is at that half
abbrev pub half_vrps : Bool → Prefix → Tree → List Vrp
half_vrps bit p t = vrps_below p.family (half_first bit p) (p.length + 1) t

-- the VRPs of a tree for IPv4 and one for IPv6
abbrev pub trie_vrps : Tree → Tree → List Vrp
trie_vrps four six = vrps_below V4 0 0 four ++ vrps_below V6 0 0 six

-- the prefix of all addresses of the family
abbrev pub whole : Family → Prefix
whole V4 = record { family = V4; first = 0; length = 0; length_fits = lit≤ tt; aligned = refl; in_family = lit≤ tt }
whole V6 = record { family = V6; first = 0; length = 0; length_fits = lit≤ tt; aligned = refl; in_family = lit≤ tt }
