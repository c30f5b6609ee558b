-- The fields of a record, and a file's header: its first record, which has to be just these fields.
use Rattle.std.specs.Prelude.{ℕ, Bool, true, false, ◌&&◌, if◌then◌else◌, List, [], ◌∷◌, get_or, map, Option, Some, None}
use Rattle.std.specs.Borrow.{Bor}
use Rattle.std.specs.Str.{bytes_eq}

-- the fields of a record
abbrev pub RecordFields : Type 0
RecordFields = List (List ℕ)

abbrev pub two_of : RecordFields → Option (List ℕ × List ℕ)
two_of [] = None
two_of (a ∷ []) = None
two_of (a ∷ b ∷ []) = Some (a, b)
two_of (a ∷ b ∷ c ∷ rest) = None

abbrev pub three_of : RecordFields → Option (List ℕ × (List ℕ × List ℕ))
three_of [] = None
three_of (a ∷ []) = None
three_of (a ∷ b ∷ []) = None
three_of (a ∷ b ∷ c ∷ []) = Some (a, (b, c))
three_of (a ∷ b ∷ c ∷ d ∷ rest) = None

abbrev pub fields_eq : RecordFields → RecordFields → Bool
fields_eq [] [] = true
fields_eq [] (b ∷ rest) = false
fields_eq (a ∷ rest) [] = false
fields_eq (a ∷ one) (b ∷ two) = bytes_eq a b && fields_eq one two

-- the field in this place, counted from 0; where there is none, no bytes
abbrev pub field_in : ℕ → RecordFields → List ℕ
field_in place fields = get_or fields place []

-- the bytes of some texts
abbrev pub texts_of : List (Bor (List ℕ)) → RecordFields
texts_of texts = map (λ text. text.now) texts

-- the records after the header, where it is there
abbrev pub rows_after : RecordFields → List RecordFields → Option (List RecordFields)
rows_after header [] = None
rows_after header (first ∷ rows) = if fields_eq first header then Some rows else None
