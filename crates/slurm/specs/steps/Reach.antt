-- What filters reach: the ASes and the prefixes whose VRPs they remove. Only the widest are kept,
-- in an order in which one of them has to be looked at for an AS and a prefix.
use Rattle.std.specs.Prelude.{◌≡◌, Bool, true, false, ◌&&◌, ◌||◌, ◌==◌, List, Some, None}
use Rattle.std.specs.List.{AllPairs, list_any}
use Rattle.std.specs.Option.{option_cmp, option_eq}
use Rattle.std.specs.Ordering.{is_le, nat_cmp, ordering_then}
use Rattle.std.specs.declared.cmp.Ordering.{Ordering}
use Rattle.addr.specs.Address.{contains}
use Rattle.addr.specs.Order.{prefix_cmp}
use Rattle.addr.specs.declared.vrp.Vrp.{Vrp}
use Rattle.slurm.specs.Filter.{filter_matches}
use Rattle.slurm.specs.declared.filter.Filter.{Filter}
use Rattle.slurm.specs.declared.reach.Reach.{Reach}

-- by AS, where no AS comes first, and then by prefix
abbrev pub reach_cmp : Reach → Reach → Ordering
reach_cmp r s =
    ordering_then (option_cmp (λ a b. nat_cmp a.0 b.0) r.asn s.asn) (prefix_cmp r.prefix s.prefix)

-- both are of one AS, or of any, and r has the prefix of s
abbrev pub encloses : Reach → Reach → Bool
encloses r s = option_eq (λ a b. a.0 == b.0) r.asn s.asn && contains r.prefix s.prefix

abbrev pub some_encloses : List Reach → Reach → Bool
some_encloses reaches wanted = list_any (λ r. encloses r wanted) reaches

-- one of them reaches the VRP: of any AS, or of the VRP's
abbrev pub some_reaches : List Reach → Vrp → Bool
some_reaches reaches v =
    some_encloses reaches (record { asn = None; prefix = v.prefix })
    || some_encloses reaches (record { asn = Some v.asn; prefix = v.prefix })

-- the VRPs that they reach are those that some filter matches
abbrev pub AreReachesOf : List Filter → List Reach → Type 0
AreReachesOf filters reaches =
    (v : Vrp) → some_reaches reaches v ≡ list_any (λ f. filter_matches f v) filters

-- each sorts at or before all later ones, and encloses none of them
abbrev pub AreWidest : List Reach → Type 0
AreWidest reaches =
    AllPairs (λ r s. (is_le (reach_cmp r s) ≡ true) × (encloses r s ≡ false)) reaches
