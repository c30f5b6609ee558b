-- Paths of bits that a node of a trie has above its branches.
use Rattle.std.specs.Prelude.{ℕ, zero, suc, ◌+◌, ◌/◌, ◌%◌, ◌^◌, Bool, true, false, ◌==◌, List, [], ◌∷◌, length}

-- the number's lowest n bits, from the highest one on
abbrev pub low_bits : ℕ → ℕ → List Bool
low_bits zero number = []
low_bits (suc n) number = (number / 2 ^ n % 2 == 1) ∷ low_bits n number

-- the number that the bits are, the last one lowest
abbrev pub number_of : List Bool → ℕ
number_of [] = 0
number_of (false ∷ path) = number_of path
number_of (true ∷ path) = 2 ^ length path + number_of path

-- how many bits the two paths have in common, from their first ones on
abbrev pub common : List Bool → List Bool → ℕ
common [] other = 0
common (bit ∷ path) [] = 0
common (false ∷ path) (false ∷ other) = suc (common path other)
common (false ∷ path) (true ∷ other) = 0
common (true ∷ path) (false ∷ other) = 0
common (true ∷ path) (true ∷ other) = suc (common path other)
