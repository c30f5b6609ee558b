-- Lists in which no value occurs twice.
use Rattle.std.specs.Prelude.{Bool, false, ◌||◌, List, [], ◌∷◌}
use Rattle.std.specs.List.{list_any}

-- some value occurs twice, by this test of equality
abbrev pub has_repeat : {T : Type 0} → (T → T → Bool) → List T → Bool
has_repeat same [] = false
has_repeat same (x ∷ xs) = list_any (λ y. same x y) xs || has_repeat same xs
