-- The VRPs of a day: those of all authorizations in force on it, except those that some prefix filter
-- matches, and all assertions, which no filter removes (RFC 8416 section 4).
use Rattle.std.specs.Prelude.{ℕ, List, ◌⊎◌, Any, Contains}
use Rattle.addr.specs.declared.vrp.Vrp.{Vrp}
use Rattle.slurm.specs.Exceptions.{Exceptions}
use Rattle.slurm.specs.Filter.{FilterMatches}
use Rattle.registry.specs.declared.authorization.Auth.{Auth}
use Rattle.registry.specs.ExceptionsInForce.{exceptions_in_force}
use Rattle.registry.specs.History.{History}
use Rattle.registry.specs.Terms.{IsVrpOf, IsInForce}

-- some authorization of some holder that is in force on the day has the VRP
abbrev pub IsVrpInForce : History → ℕ → Vrp → Type 0
IsVrpInForce history day v = (h : List ℕ) × (x : Auth) × IsInForce history h x day × IsVrpOf x v

-- given, and matched by no prefix filter; or an assertion
abbrev pub IsAfterExceptions : Exceptions → Type 0 → Vrp → Type 0
IsAfterExceptions exceptions given v =
    (given × ¬ Any (λ filter. FilterMatches filter v) exceptions.filters)
    ⊎ Contains exceptions.assertions v

abbrev pub IsVrpOn : History → ℕ → Vrp → Type 0
IsVrpOn history day v =
    IsAfterExceptions (exceptions_in_force history) (IsVrpInForce history day v) v
