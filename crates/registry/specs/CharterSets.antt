-- A charter as what it says: the operators of a desk, and the pool of prefixes that it delegates from.
use Rattle.std.specs.Prelude.{◌≡◌, ℕ, ◌≤◌, false, List, length, nat_eq, IsSorted}
use Rattle.std.specs.Cmp.Lexicographic.{pointwise, slice_cmp}
use Rattle.std.specs.Ordering.{nat_cmp}
use Rattle.addr.specs.Address.{prefix_eq}
use Rattle.addr.specs.Order.{prefix_cmp}
use Rattle.addr.specs.declared.prefix.Prefix.{Prefix}
use Rattle.registry.specs.declared.charter.TheConstants.{MOST_OPERATORS, MOST_POOL_PREFIXES}
use Rattle.registry.specs.Repeats.{has_repeat}

-- both are sets
pub record CharterSets : Type 0 where
  pub operators : List (List ℕ)
  pub pool : List Prefix

-- at least one of each, and no more than a charter may have
abbrev pub AreAllowedCounts : List (List ℕ) → List Prefix → Type 0
AreAllowedCounts operators pool =
    (1 ≤ length operators) × (length operators ≤ MOST_OPERATORS)
    × (1 ≤ length pool) × (length pool ≤ MOST_POOL_PREFIXES)

-- in number, none twice, and rising: so charters of the same members are equal
pub record IsCharter (charter : CharterSets) : Type 0 where
  pub number : AreAllowedCounts charter.operators charter.pool
  pub operators_once : has_repeat (pointwise nat_eq) charter.operators ≡ false
  pub pool_once : has_repeat prefix_eq charter.pool ≡ false
  pub operators_rise : IsSorted (slice_cmp nat_cmp) charter.operators
  pub pool_rises : IsSorted prefix_cmp charter.pool
