-- What a stream of bytes has passed on.
use Rattle.std.specs.Prelude.{◌≡◌, ℕ, List, ◌++◌}

-- what was written between old and new is a beginning of the text
abbrev pub AppendsBeginning : List ℕ → List ℕ → List ℕ → Type 0
AppendsBeginning old new text = (out more : List ℕ) × (new ≡ old ++ out) × (text ≡ out ++ more)
