-- How short the prefixes of a list of VRPs may be.
use Rattle.std.specs.Prelude.{ℕ, ◌≤◌, List}
use Rattle.std.specs.List.{All}
use Rattle.addr.specs.declared.family.Family.{Family}
use Rattle.addr.specs.declared.family.Family.TheVariants.{V4, V6}
use Rattle.addr.specs.declared.vrp.Vrp.{Vrp}
use Rattle.payload.specs.declared.shortest.Shortest.{Shortest}

abbrev pub shortest_in : Shortest → Family → ℕ
shortest_in s V4 = s.v4
shortest_in s V6 = s.v6

-- no prefix is shorter than its family's number
abbrev pub AreNoShorter : Shortest → List Vrp → Type 0
AreNoShorter s vrps = All (λ v. shortest_in s v.prefix.family ≤ v.prefix.length) vrps
