-- What was taken from a source.
use Rattle.std.specs.Prelude.{◌≡◌, ◌⊎◌, Bool, true, List, ℕ, ◌++◌}

-- the source has given these bytes and no others
abbrev pub Gives : List ℕ → List ℕ → List ℕ → Type 0
Gives bytes old new = new ≡ old ++ bytes

-- it will give no more: the last read met its end, or failed
abbrev pub HasNoMore : Bool → Bool → Type 0
HasNoMore has_ended has_failed = (has_ended ≡ true) ⊎ (has_failed ≡ true)
