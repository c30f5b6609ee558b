-- The items of a list in a reply, as they are written one after the other.
use Rattle.std.specs.Prelude.{ℕ, Bool, true, false, List, [], ◌∷◌, ◌++◌, codes}
use Rattle.registry.specs.declared.authorization.Auth.{Auth}
use Rattle.web.specs.ReplyText.{auth_end, auth_start, comma_joined}

-- what comes before an item, which is or is not the first
abbrev pub separator : Bool → List ℕ
separator true = []
separator false = codes ","

-- an item, after a comma unless it is the first
abbrev pub item_after : Bool → List ℕ → List ℕ
item_after is_first text = separator is_first ++ text

abbrev pub after_commas : List (List ℕ) → List ℕ
after_commas [] = []
after_commas (text ∷ texts) = item_after false text ++ after_commas texts

-- the items that are left, of which the first is or is not the first of the list
abbrev pub items_left : Bool → List (List ℕ) → List ℕ
items_left true texts = comma_joined texts
items_left false texts = after_commas texts

-- ---- an authorization, which is or is not the first

-- with this text of its entries
abbrev pub auth_item : Bool → Auth → List ℕ → List ℕ
auth_item is_first auth entries = item_after is_first (auth_start auth ++ entries ++ auth_end auth)

-- what comes before the list of its entries
abbrev pub list_opening : Bool → Auth → List ℕ
list_opening is_first auth = item_after is_first (auth_start auth) ++ codes "\"entries\":["

-- what comes after the list
abbrev pub list_closing : Auth → List ℕ
list_closing auth = codes "]" ++ auth_end auth
