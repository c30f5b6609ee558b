-- The parts of a JSON tree. The tree is the one that the JSON reader gives: of a repeated member it
-- has the last value.
use Rattle.std.specs.Prelude.{ℕ, List, [], ◌∷◌, Bool, true, ◌&&◌, if◌then◌else◌, Option, Some, None, Result, Ok, Err}
use Rattle.std.specs.List.{list_any}
use Rattle.std.specs.Str.{bytes_eq, is_utf8}
use Rattle.serde_json.specs.Data.{Data, Items, no_items, item, Members, no_members, member}
use Rattle.serde_json.specs.Find.{as_object}
use Rattle.serde_json.specs.Read.{read}
use Rattle.json_values.specs.Parts.{mapped}

-- no tree for bytes that are no JSON text
abbrev pub tree_of : List ℕ → Option Data
tree_of bytes = if is_utf8 bytes then read bytes else None

-- of a member that has to be there; where it is missing, this fault
abbrev pub required : {A F : Type 0} → F → (Data → Result A F) → Option Data → Result A F
required missing reading None = Err missing
required missing reading (Some d) = reading d

-- of a member that may be missing
abbrev pub optional : {A F : Type 0} → (Data → Result A F) → Option Data → Result (Option A) F
optional reading None = Ok None
optional reading (Some d) = mapped Some (reading d)

abbrev pub is_among : List (List ℕ) → List ℕ → Bool
is_among names name = list_any (λ known. bytes_eq known name) names

abbrev pub has_only : List (List ℕ) → Members → Bool
has_only names no_members = true
has_only names (member name d ms) = is_among names name && has_only names ms

abbrev pub only_of : {F : Type 0} → F → List (List ℕ) → Option Members → Result (Unit {0}) F
only_of fault names None = Err fault
only_of fault names (Some ms) = if has_only names ms then Ok tt else Err fault

-- an object whose members are all among these, else this fault
abbrev pub only : {F : Type 0} → F → List (List ℕ) → Data → Result (Unit {0}) F
only fault names d = only_of fault names (as_object d)

abbrev pub list_of : Items → List Data
list_of no_items = []
list_of (item d ds) = d ∷ list_of ds
