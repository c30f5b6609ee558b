-- The faults of a JSON value as a list, wherever in the value they are. The lowest of all is
-- reported: faults are compared by `number`.
use Rattle.std.specs.Prelude.{ℕ, Bool, true, false, List, [], ◌∷◌, Option, Some, None, is_some}
use Rattle.serde_json.specs.Data.{Data, Members}
use Rattle.serde_json.specs.Find.{as_object}
use Rattle.json_values.specs.Parts.{lower}
use Rattle.json_values.specs.Tree.{has_only}

abbrev pub lower_of : {F : Type 0} → (F → ℕ) → Option F → Option F → Option F
lower_of number None other = other
lower_of number (Some one) None = Some one
lower_of number (Some one) (Some other) = Some (lower number one other)

-- the lowest of some faults, if there is one
abbrev pub lowest : {F : Type 0} → (F → ℕ) → List F → Option F
lowest number [] = None
lowest number (fault ∷ faults) = lower_of number (Some fault) (lowest number faults)

-- where the test fails
abbrev pub fault_unless : {F : Type 0} → Bool → F → List F
fault_unless true fault = []
fault_unless false fault = fault ∷ []

-- of a value that does not read so
abbrev pub reading_faults : {A F : Type 0} → (Data → Option A) → F → Data → List F
reading_faults reading fault d = fault_unless (is_some (reading d)) fault

-- of a member that has to be there; where it is missing, this fault
abbrev pub required_faults : {F : Type 0} → F → (Data → List F) → Option Data → List F
required_faults missing faults None = missing ∷ []
required_faults missing faults (Some d) = faults d

-- of a member that may be missing
abbrev pub optional_faults : {F : Type 0} → (Data → List F) → Option Data → List F
optional_faults faults None = []
optional_faults faults (Some d) = faults d

abbrev pub is_object_of : List (List ℕ) → Option Members → Bool
is_object_of names None = false
is_object_of names (Some ms) = has_only names ms

-- of a value that is no object, or has a member of another name
abbrev pub name_faults : {F : Type 0} → F → List (List ℕ) → Data → List F
name_faults fault names d = fault_unless (is_object_of names (as_object d)) fault
