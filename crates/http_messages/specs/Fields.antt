-- The fields of a head: names, and values without the white space around them (RFC 9110 sections 5.1 and 5.5).
use Rattle.std.specs.Prelude.{ℕ, List, [], ◌∷◌, if◌then◌else◌, Option, Some, None, option_map, Result, Ok, Err}
use Rattle.std.specs.Borrow.{Bor}
use Rattle.std.specs.Str.{str_eq_ignore_ascii_case}

abbrev pub Fields : Type 0
Fields = List (List ℕ × List ℕ)

-- the values of the fields of this name, in their order; the case of ASCII letters in a name does not count
abbrev pub values_of : List ℕ → Fields → List (List ℕ)
values_of name [] = []
values_of name ((other, value) ∷ rest) =
    if str_eq_ignore_ascii_case other name then value ∷ values_of name rest else values_of name rest

-- the one value, if there is one; none of both where there are two
abbrev pub only_value : List (List ℕ) → Option (Option (List ℕ))
only_value [] = Some None
only_value (value ∷ []) = Some (Some value)
only_value (_ ∷ _ ∷ _) = None

-- the same, of what a call answers with: an error where there are two
abbrev pub seen_value : {E : Type 0} → Result (Option (Bor (List ℕ))) E → Option (Option (List ℕ))
seen_value (Ok found) = Some (option_map (λ value. value.now) found)
seen_value (Err _) = None
