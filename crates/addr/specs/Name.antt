use Rattle.std.specs.Prelude.{ℕ, Bool, not, ◌&&◌, ◌||◌, ◌==◌, if◌then◌else◌, nat_le, List, length, slice_index, Option, Some, None}
use Rattle.std.specs.List.{list_all}

-- a to z, 0 to 9 and '-'
abbrev pub is_name_byte : ℕ → Bool
is_name_byte b = (nat_le 97 b && nat_le b 122) || (nat_le 48 b && nat_le b 57) || (b == 45)

-- a name: 1 to 32 of those bytes, the first of them no '-'
abbrev pub is_name : List ℕ → Bool
is_name text =
    nat_le 1 (length text) && nat_le (length text) 32 && not (slice_index text 0 == 45)
    && list_all is_name_byte text

-- the name that a text is
abbrev pub name_in : List ℕ → Option (List ℕ)
name_in text = if is_name text then Some text else None
