-- What a desk shows: its store, and the VRPs of a day that it keeps beside the tables.
use Rattle.std.specs.Prelude.{Option, IfSome, refl}
use Rattle.std.specs.Coded.{Coded, code_by, coded×, coded_option}
use Rattle.daily_vrps.specs.Days.{IsDayOfRows}
use Rattle.daily_vrps.specs.KeptDay.{day_code, KeptDay}
use Rattle.registry.specs.RowsOfAll.{AllRows}
use Rattle.sqlite.specs.State.{HasCleanDisk}
use Rattle.sqlite.specs.Store.{Ghosts}
use Rattle.store.specs.StoreRows.{connection_state, Holds, StoreView, view_code}

pub record DeskView (S : Type 0) : Type 0 where
  pub store : StoreView S
  pub kept : Option KeptDay

abbrev pub desk_code : {S : Type 0} → Coded S → Coded (DeskView S)
desk_code {S} store =
    code_by (StoreView S × Option KeptDay) (coded× (view_code store) (coded_option day_code))
    (λ desk. (desk.store, desk.kept)) (λ p. record { store = p.0; kept = p.1 }) (λ _. refl)

-- the tables hold some rows, and what is kept of a day is theirs, unless the disk returned what was not
-- written
abbrev pub HoldsRowsAndDay : {S : Type 0} → Ghosts S → StoreView S → Option KeptDay → Type 0
HoldsRowsAndDay g store kept =
    HasCleanDisk (connection_state g store)
    → (rows : AllRows) × Holds g store rows × IfSome kept (IsDayOfRows rows)
