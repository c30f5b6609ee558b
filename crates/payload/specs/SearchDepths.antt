-- The prefix lengths at which a search of a set of VRPs for those that cover a route has something to look at.
use Rattle.std.specs.Prelude.{ℕ, ◌+◌, ◌-◌, ◌^◌, ◌/◌, Bool, ◌&&◌, ◌||◌, ◌==◌, not, nat_le, nat_lt, List, filter}
use Rattle.std.specs.List.{list_any, range_with_len}
use Rattle.addr.specs.Family.{width, family_eq}
use Rattle.addr.specs.OriginValidation.{matches}
use Rattle.addr.specs.declared.prefix.Prefix.{Prefix}
use Rattle.addr.specs.declared.route.Route.{Route}
use Rattle.addr.specs.declared.vrp.Vrp.{Vrp}

-- the prefix's first k bits, as a number
abbrev pub first_bits : ℕ → Prefix → ℕ
first_bits k p = p.first / 2 ^ (width p.family - k)

-- p is of the family of q, has k bits at least, and agrees with q on the first k
abbrev pub agrees : ℕ → Prefix → Prefix → Bool
agrees k p q = family_eq p.family q.family && (nat_le k p.length && (first_bits k p == first_bits k q))

-- k is 0, or some VRP agrees with the route on the first k bits
abbrev pub is_reached : List Vrp → Route → ℕ → Bool
is_reached vrps r k = (k == 0) || list_any (λ v. agrees k v.prefix r.prefix) vrps

-- some VRP of fewer than k bits matches the route
abbrev pub is_matched_before : List Vrp → Route → ℕ → Bool
is_matched_before vrps r k = list_any (λ v. matches v r && nat_lt v.prefix.length k) vrps

-- the lengths from 0 to the route's that are reached; where some VRP matches, only those up to the
-- shortest such VRP's length
abbrev pub search_depths : List Vrp → Route → List ℕ
search_depths vrps r =
    filter (λ k. is_reached vrps r k && not (is_matched_before vrps r k)) (range_with_len 0 (r.prefix.length + 1))
