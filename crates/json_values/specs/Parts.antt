-- Steps of readers: values that are read of several parts. A whole is read from all of its parts,
-- so that its fault is the lowest of all of theirs, wherever they are: faults are compared by
-- `number`.
use Rattle.std.specs.Prelude.{ℕ, nat_le, if◌then◌else◌, List, [], ◌∷◌, ◌++◌, Option, Some, None, Result, Ok, Err}

-- the one of the lower number
unfoldable pub lower : {F : Type 0} → (F → ℕ) → F → F → F
lower number one other = if nat_le (number one) (number other) then one else other

-- both values, or the lowest fault of the two
abbrev pub both : {A B F : Type 0} → (F → ℕ) → Result A F → Result B F → Result (A × B) F
both number (Ok a) (Ok b) = Ok (a, b)
both number (Ok a) (Err fault) = Err fault
both number (Err fault) (Ok b) = Err fault
both number (Err one) (Err other) = Err (lower number one other)

abbrev pub mapped : {A B F : Type 0} → (A → B) → Result A F → Result B F
mapped f (Ok a) = Ok (f a)
mapped f (Err fault) = Err fault

-- the value, where a further test of it finds no fault
abbrev pub and_then : {A B F : Type 0} → (A → Result B F) → Result A F → Result B F
and_then f (Ok a) = f a
and_then f (Err fault) = Err fault

-- the value where the other has no fault, else the lowest fault of the two
abbrev pub unless : {A B F : Type 0} → (F → ℕ) → Result A F → Result B F → Result A F
unless number value other = mapped (λ p. p.0) (both number value other)

-- the values of all items, or the lowest fault of any
abbrev pub each : {A D F : Type 0} → (F → ℕ) → (D → Result A F) → List D → Result (List A) F
each number reading [] = Ok []
each number reading (d ∷ ds) = mapped (λ p. p.0 ∷ p.1) (both number (reading d) (each number reading ds))

-- the values and one more after them, or the lowest fault of any
abbrev pub with_last : {A F : Type 0}
    → (F → ℕ) → Result (List A) F → Result A F → Result (List A) F
with_last number values last = mapped (λ p. p.0 ++ p.1 ∷ []) (both number values last)

-- what was read of some items so far: all of their values, or the lowest fault of any
abbrev pub gathered : {A F : Type 0} → Option F → List A → Result (List A) F
gathered None values = Ok values
gathered (Some fault) values = Err fault
