-- Requests of several parts, such as the rows of an import: each part is judged on the history that the
-- parts before it left, and the first that is denied ends the request. A part that is not denied makes an
-- entry of some command, or no entry.
use Rattle.std.specs.Prelude.{◌≡◌, ℕ, ◌+◌, List, [], ◌∷◌, Option, Some, None, Result, Ok, Err, ◌⊎◌}
use Rattle.registry.specs.declared.command.Command.{Command}
use Rattle.registry.specs.declared.rule.Rule.{Rule}
use Rattle.registry.specs.History.{History}

-- the history with the entry of a part, if it makes one
abbrev pub grown_by : ℕ → List ℕ → Option Command → History → History
grown_by day caller None before = before
grown_by day caller (Some command) before =
    record { day = day; caller = caller; command = command } ∷ before

-- no part is denied, and the history with all their entries is this one
abbrev pub Grows :
    {X : Type 0} → (History → X → Result (Option Command) Rule → Type 0) → ℕ → List ℕ
    → History → List X → History → Type 0
Grows judges day caller before [] after = after ≡ before
Grows judges day caller before (x ∷ xs) after =
    (made : Option Command) × judges before x (Ok made)
    × Grows judges day caller (grown_by day caller made before) xs after

-- the part in this place, counted from 1, is the first that is denied, and by this rule
abbrev pub IsDeniedAt :
    {X : Type 0} → (History → X → Result (Option Command) Rule → Type 0) → ℕ → List ℕ
    → History → List X → Rule → ℕ → Type 0
IsDeniedAt judges day caller before [] rule place = ⊥
IsDeniedAt judges day caller before (x ∷ xs) rule place =
    (judges before x (Err rule) × (place ≡ 1))
    ⊎ ((made : Option Command) × judges before x (Ok made)
    × (later : ℕ) × (place ≡ later + 1)
    × IsDeniedAt judges day caller (grown_by day caller made before) xs rule later)
