-- What a sink took of a visit at which it stopped.
use Rattle.std.specs.Prelude.{ℕ, ◌<◌, ◌≤◌, List, length, take}
use Rattle.addr.specs.declared.vrp.Vrp.{Vrp}

-- from the one value to the other the sink took a beginning of the items, at least the first
abbrev pub TookBeginning : {S : Type 0} → (S → List Vrp → S → Type 0) → List Vrp → S → S → Type 0
TookBeginning took items before after =
    (n : ℕ) × (0 < n) × (n ≤ length items) × took before (take n items) after
