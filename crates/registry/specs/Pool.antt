-- The pool of prefixes that a desk delegates from, address by address.
use Rattle.std.specs.Prelude.{◌≡◌, ℕ, ◌≤◌, Bool, true, List}
use Rattle.std.specs.List.{list_any}
use Rattle.addr.specs.Address.{Address, has_address}
use Rattle.addr.specs.declared.family.Family.{Family}
use Rattle.addr.specs.declared.prefix.Prefix.{Prefix}

-- the address lies in some prefix of the pool
abbrev pub pool_has : List Prefix → Address → Bool
pool_has pool a = list_any (λ q. has_address q a) pool

-- every address of the prefix lies in some prefix of the pool; the prefix may span several
abbrev pub IsInPool : List Prefix → Prefix → Type 0
IsInPool pool p = (a : Address) → has_address p a ≡ true → pool_has pool a ≡ true

-- the pool has every address of the family from one number up to another
abbrev pub HasFromTo : List Prefix → Family → ℕ → ℕ → Type 0
HasFromTo pool family low high =
    (n : ℕ) → low ≤ n → n ≤ high → pool_has pool (record { family = family; number = n }) ≡ true
