-- What an authorization gives on a day.
use Rattle.std.specs.Prelude.{ℕ, ◌≤◌, List, [], Option, Some, None, Contains}
use Rattle.addr.specs.declared.vrp.Vrp.{Vrp}
use Rattle.registry.specs.Rows.{Rows}
use Rattle.registry.specs.Terms.{IsVrpOf}
use Rattle.registry.specs.declared.authorization.Auth.{Auth}

-- by its days and its terms the authorization gives the VRP on the day
abbrev pub GivesOn : Auth → ℕ → Vrp → Type 0
GivesOn x day v = (x.from ≤ day) × (day ≤ x.until) × IsVrpOf x v

-- one of these authorizations gives the VRP on the day
abbrev pub AreGivingOn : List Auth → ℕ → Vrp → Type 0
AreGivingOn auths day v = (x : Auth) × Contains auths x × GivesOn x day v

-- the authorizations of rows; none where there are no rows
abbrev pub auths_of_rows : Option Rows → List Auth
auths_of_rows None = []
auths_of_rows (Some rows) = rows.auths
