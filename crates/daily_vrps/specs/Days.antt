-- Whose VRPs are kept of a day: those that rows give, or those of a history.
use Rattle.std.specs.Prelude.{◌≡◌, ◌↔◌, ◌⊎◌, ℕ, List, Contains}
use Rattle.addr.specs.declared.vrp.Vrp.{Vrp}
use Rattle.payload.specs.VrpSet as set
use Rattle.registry.specs.DailyVrps.{IsVrpInForce, IsVrpOn}
use Rattle.registry.specs.ExceptionsInForce.{exceptions_in_force}
use Rattle.registry.specs.History.{History}
use Rattle.registry.specs.RowsOfAll.{AllRows, IsGivenOn}
use Rattle.registry.specs.declared.authorization.Auth.{Auth}
use Rattle.slurm.specs.SlurmSets.{union}
use Rattle.daily_vrps.specs.Giving.{AreGivingOn}
use Rattle.daily_vrps.specs.KeptDay.{HasExceptions, FollowsExceptions, KeptDay}

-- the VRPs are those that the rows give on the day, after the exceptions of all files of the rows
pub record IsDayOfRows (rows : AllRows) (kept : KeptDay) : Type 0 where
  pub exceptions : HasExceptions kept (union rows.files)
  pub given : FollowsExceptions (IsGivenOn rows kept.day) kept

-- the VRPs that are kept of a day are those of the history
abbrev pub IsDayOf : History → KeptDay → Type 0
IsDayOf history kept = (v : Vrp) → Contains (set.items kept.vrps) v ↔ IsVrpOn history kept.day v

-- with the ended authorizations out and the begun ones in, the VRPs in force on the day after the
-- one history are those after the other; and the exceptions in force are the same
pub record ExchangesVrps (before after : History) (day : ℕ) (ended begun : List Auth) : Type 0 where
  pub vrps :
      (v : Vrp) → IsVrpInForce after day v
      ↔ ((IsVrpInForce before day v × ¬ AreGivingOn ended day v) ⊎ AreGivingOn begun day v)
  pub exceptions : exceptions_in_force after ≡ exceptions_in_force before
