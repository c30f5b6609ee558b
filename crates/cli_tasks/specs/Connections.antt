-- What is known of the connections that were accepted, and of a log of their faults.
use Rattle.std.specs.Prelude.{◌≡◌, ℕ, Bool, false, List, ◌++◌, Option, Some, None, ⊤}
use Rattle.std.specs.Io.KnownBytes.{Appends, Consumes}
use Rattle.cli_tasks.specs.Serving.{Transcript}

-- known connections stay, and these were accepted after them
abbrev pub Accepts : Option (List Transcript) → Option (List Transcript) → List Transcript → Type 0
Accepts None new passed = ⊤
Accepts (Some before) None passed = ⊥
Accepts (Some before) (Some after) passed = after ≡ before ++ passed

-- What was received is what a peer gave first of the known bytes that it has left, and what was sent came to the known
-- ones that a peer had taken.
abbrev pub Passes : Option (List ℕ) → Option (List ℕ) → Transcript → Option (List ℕ) → Type 0
Passes remaining contents passed contents_after =
    ((left : Option (List ℕ)) × Consumes remaining left passed.received)
    × Appends contents contents_after passed.sent

-- unless a line was lost, none was lost before either, and these came to the known ones
abbrev pub Logs : Bool → Bool → Option (List ℕ) → Option (List ℕ) → List ℕ → Type 0
Logs lost_before lost_after old new lines = lost_after ≡ false → (lost_before ≡ false) × Appends old new lines
