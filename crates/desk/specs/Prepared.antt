-- A day that a desk keeps for a query.
use Rattle.std.specs.Prelude.{◌≡◌, ℕ, Bool, true, false, Option, Some, None, IfSome, option_map}
use Rattle.daily_vrps.specs.Days.{IsDayOf}
use Rattle.daily_vrps.specs.KeptDay.{KeptDay}
use Rattle.sqlite.specs.Store.{Ghosts}
use Rattle.store.specs.StoreRows.{IsRead}
use Rattle.desk.specs.Desk.{store_of, HoldsHistory, EachHistory}
use Rattle.desk.specs.declared.desk.Desk.{Desk}

abbrev pub day_of : Option KeptDay → Option ℕ
day_of kept = option_map (λ day. day.day) kept

-- If the answer is yes, the day is kept; otherwise no day is. If it was kept already, the answer is yes and nothing is
-- read. The tables are read at most: the desk holds each legal history that it held, and the kept day is of each.
pub record IsPrepared {S : Type 0} (g : Ghosts S) (day : ℕ) (done : Bool) (old new : Desk S) : Type 0 where
  pub read : IsRead g (store_of old) (store_of new)
  pub kept : done ≡ true → day_of new.kept ≡ Some day
  pub none : done ≡ false → new.kept ≡ None
  pub same : day_of old.kept ≡ Some day → (done ≡ true) × (new ≡ old)
  pub held : EachHistory g old new (HoldsHistory g new)
  pub found : EachHistory g old new (λ history. IfSome new.kept (IsDayOf history))
