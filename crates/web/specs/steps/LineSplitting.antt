-- How a text goes on from a line that is unfinished.
use Rattle.std.specs.Prelude.{ℕ, List, [], ◌∷◌, ◌++◌}
use Rattle.web.specs.ScriptLines.{all_but_last, last_piece, pieces}

-- the pieces, the first of them behind these bytes
abbrev pub behind : List ℕ → List (List ℕ) → List (List ℕ)
behind front [] = front ∷ []
behind front (piece ∷ more) = (front ++ piece) ∷ more

-- the lines that the text completes
abbrev pub completed_lines : List ℕ → List ℕ → List (List ℕ)
completed_lines unfinished text = all_but_last (behind unfinished (pieces text))

-- the line that is unfinished after the text
abbrev pub unfinished_line : List ℕ → List ℕ → List ℕ
unfinished_line unfinished text = last_piece (behind unfinished (pieces text))
