-- What the steps of a search leave to be looked at.
use Rattle.std.specs.Prelude.{◌≡◌, Bool, true, false, List, ◌++◌}
use Rattle.std.specs.List.{All}
use Rattle.std.specs.Ordering.{is_le, is_lt}
use Rattle.addr.specs.Address.{contains}
use Rattle.addr.specs.OriginValidation.{matches}
use Rattle.addr.specs.declared.prefix.Prefix.{Prefix}
use Rattle.addr.specs.declared.route.Route.{Route}
use Rattle.addr.specs.declared.vrp.Vrp.{Vrp}
use Rattle.addr.specs.Order.{prefix_cmp, vrp_cmp}

-- p sorts at or before q
abbrev pub is_at_most : Prefix → Prefix → Bool
is_at_most p q = is_le (prefix_cmp p q)

-- v sorts before w
abbrev pub is_below : Vrp → Vrp → Bool
is_below v w = is_lt (vrp_cmp v w)

-- the front has the VRPs whose prefixes sort at or before p, and the rest has the others
pub record IsFrontUpTo (p : Prefix) (vrps front : List Vrp) : Type 0 where
  pub rest : List Vrp
  pub parts : vrps ≡ front ++ rest
  pub at_most : All (λ v. is_at_most v.prefix p ≡ true) front
  pub after : All (λ v. is_at_most v.prefix p ≡ false) rest

-- no VRP behind the front contains p
pub record HasAllEnclosing (p : Prefix) (vrps front : List Vrp) : Type 0 where
  pub rest : List Vrp
  pub parts : vrps ≡ front ++ rest
  pub others : All (λ v. contains v.prefix p ≡ false) rest

-- no VRP behind the front matches the route
pub record HasAllMatching (route : Route) (vrps front : List Vrp) : Type 0 where
  pub rest : List Vrp
  pub parts : vrps ≡ front ++ rest
  pub others : All (λ v. matches v route ≡ false) rest
