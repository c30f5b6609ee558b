-- The lines of a script.
use Rattle.std.specs.Prelude.{ℕ, Bool, true, false, List, [], ◌∷◌, ◌++◌, Option, Some, None, ◌==◌, nat_le, if◌then◌else◌, length}
use Rattle.std.specs.List.{slice_split}
use Rattle.requests.specs.declared.request.TheConstants.{LINE_LENGTH_LIMIT}

-- what is before, between and after the line feeds of a text
abbrev pub pieces : List ℕ → List (List ℕ)
pieces text = slice_split (λ byte. byte == 10) text

-- all the pieces except the last
abbrev pub all_but_last : List (List ℕ) → List (List ℕ)
all_but_last [] = []
all_but_last (piece ∷ []) = []
all_but_last (piece ∷ next ∷ more) = piece ∷ all_but_last (next ∷ more)

abbrev pub last_piece : List (List ℕ) → List ℕ
last_piece [] = []
last_piece (piece ∷ []) = piece
last_piece (piece ∷ next ∷ more) = last_piece (next ∷ more)

-- the pieces that a line feed ends
abbrev pub whole_lines : List ℕ → List (List ℕ)
whole_lines text = all_but_last (pieces text)

-- the piece as the only line, if it is not empty
abbrev pub unless_empty : List ℕ → List (List ℕ)
unless_empty [] = []
unless_empty (byte ∷ bytes) = (byte ∷ bytes) ∷ []

-- the lines of a script: the pieces that a line feed ends, and a last piece that is not empty.
-- Nothing is trimmed
abbrev pub script_lines : List ℕ → List (List ℕ)
script_lines text = whole_lines text ++ unless_empty (last_piece (pieces text))

-- the lines of what was read so far: a last piece is a line only where the source has ended
abbrev pub lines_read : Bool → List ℕ → List (List ℕ)
lines_read true text = script_lines text
lines_read false text = whole_lines text

-- a line as it is answered: its bytes, or nothing if it is over the limit
unfoldable pub within_limit : List ℕ → Option (List ℕ)
within_limit line = if nat_le (length line) LINE_LENGTH_LIMIT then Some line else None
