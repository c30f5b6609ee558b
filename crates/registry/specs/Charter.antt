-- The operators of a desk and the pool of prefixes that it delegates from. Both are sets; they are
-- kept in rising order.
use Rattle.std.specs.Prelude.{ℕ, Bool, List, nat_eq}
use Rattle.std.specs.Cmp.Lexicographic.{pointwise}
use Rattle.std.specs.List.{list_any}
use Rattle.addr.specs.declared.prefix.Prefix.{Prefix}
use Rattle.registry.specs.declared.charter.Charter.{Charter}

abbrev pub operators_of : Charter → List (List ℕ)
operators_of charter = charter.operators

abbrev pub pool_of : Charter → List Prefix
pool_of charter = charter.pool

abbrev pub is_operator : Charter → List ℕ → Bool
is_operator charter caller = list_any (λ name. pointwise nat_eq name caller) (operators_of charter)
