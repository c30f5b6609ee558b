-- What an edit of the rows of one holder does to what the authorizations of all holders give on a day.
use Rattle.std.specs.Prelude.{◌≡◌, ◌↔◌, ◌⊎◌, ℕ, List, [], Option, Some, None, option_map, Contains}
use Rattle.addr.specs.declared.vrp.Vrp.{Vrp}
use Rattle.registry.specs.declared.authorization.Auth.{Auth}
use Rattle.registry.specs.declared.change.Change.TheVariants.{Holders}
use Rattle.registry.specs.declared.change.Edit.{Edit}
use Rattle.registry.specs.declared.change.HolderChange.{HolderChange}
use Rattle.registry.specs.Edits.{begun, ended}
use Rattle.registry.specs.Rows.{Rows}
use Rattle.registry.specs.RowsOfAll.{AllRows, IsGivenOn, changed_rows}
use Rattle.store.specs.Given.{GivenOnce}
use Rattle.daily_vrps.specs.Giving.{AreGivingOn}

-- of the authorizations of a holder, those that the edit ends, and those that it begins; none where the holder has no rows
abbrev pub ended_if_any : Edit → Option (List Auth) → List Auth
ended_if_any edit None = []
ended_if_any edit (Some auths) = ended edit auths

abbrev pub begun_if_any : Edit → Option (List Auth) → List Auth
begun_if_any edit None = []
begun_if_any edit (Some auths) = begun edit auths

-- the same authorizations are in both lists
abbrev pub HaveSameAuths : List Auth → List Auth → Type 0
HaveSameAuths xs ys = (x : Auth) → Contains xs x ↔ Contains ys x

-- Of all authorizations of a holder, these are enough to follow the edit: it ends the same among them as among all,
-- and begins the same.
abbrev pub AreEnough : Edit → Option (List Auth) → Option (List Auth) → Type 0
AreEnough edit all some =
    HaveSameAuths (ended_if_any edit all) (ended_if_any edit some)
    × HaveSameAuths (begun_if_any edit all) (begun_if_any edit some)

-- the authorizations of a holder in the rows; none where it has no rows
abbrev pub auths_of : AllRows → List ℕ → Option (List Auth)
auths_of rows holder = option_map (λ r. r.auths) (rows.of_holder holder)

-- What is given on a day after an edit of a holder that has these authorizations: what was given before and by
-- none that the edit ends, and what the begun ones give.
abbrev pub IsGivenAfter : Edit → Option (List Auth) → ℕ → Type 0 → Vrp → Type 0
IsGivenAfter edit auths day given v =
    (given × ¬ AreGivingOn (ended_if_any edit auths) day v) ⊎ AreGivingOn (begun_if_any edit auths) day v

-- where no VRP is given twice, the rows give this after the edit of a holder's
abbrev pub EditsGiven : Type 0
EditsGiven =
    (rows : AllRows) (change : HolderChange) (mine : Rows) (day : ℕ) (v : Vrp)
    → GivenOnce rows → rows.of_holder change.holder ≡ Some mine
    → IsGivenOn (changed_rows (Holders change None) rows) day v
    ↔ IsGivenAfter change.edit (Some mine.auths) day (IsGivenOn rows day v) v

-- and so by those of the holder's authorizations that are enough
abbrev pub EditsGivenByEnough : Type 0
EditsGivenByEnough =
    (rows : AllRows) (change : HolderChange) (some : Option (List Auth)) (day : ℕ) (v : Vrp)
    → GivenOnce rows → AreEnough change.edit (auths_of rows change.holder) some
    → IsGivenOn (changed_rows (Holders change None) rows) day v
    ↔ IsGivenAfter change.edit some day (IsGivenOn rows day v) v

-- An edit of a holder that has no rows begins nothing and ends nothing: at most it registers the holder.
abbrev pub EditsNothing : Type 0
EditsNothing =
    (rows : AllRows) (change : HolderChange) (day : ℕ) (v : Vrp)
    → rows.of_holder change.holder ≡ None
    → IsGivenOn (changed_rows (Holders change None) rows) day v ↔ IsGivenOn rows day v

-- after an edit that begins no authorization still no VRP is given twice
abbrev pub EndingKeepsOnce : Type 0
EndingKeepsOnce =
    (rows : AllRows) (change : HolderChange) → ((auths : List Auth) → begun change.edit auths ≡ [])
    → GivenOnce rows → GivenOnce (changed_rows (Holders change None) rows)
