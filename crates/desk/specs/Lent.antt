-- The VRPs of a day, which a desk lends.
use Rattle.std.specs.Prelude.{◌≡◌, ℕ, Option, IfSome, is_some}
use Rattle.std.specs.Borrow.{Fml, MutBor, RattleType}
use Rattle.std.specs.Io.BufRead.{Rests}
use Rattle.payload.specs.VrpSet as set
use Rattle.sqlite.specs.Store.{Ghosts}
use Rattle.desk.specs.Answer.{AreVrpsOn}
use Rattle.desk.specs.Desk.{EachHistory}
use Rattle.desk.specs.Prepared.{IsPrepared}
use Rattle.desk.specs.contracts.desk.Desk.{the_row}
use Rattle.desk.specs.declared.desk.Desk.{Desk}
use denote.Ref.{Bor}

-- The day was kept, or was not and nothing is lent. What is lent are the VRPs that are kept, which are those of the day,
-- rising, on each legal history that the desk held.
pub record HasLent {S : Type 0} (g : Ghosts S) (day : ℕ) (old : Desk S) (result : Option (Bor set.VrpSet)) (new : Desk S) : Type 0 where
  pub prepared : IsPrepared g day (is_some result) old new
  pub lent : IfSome result (λ vrps. IfSome new.kept (λ kept. kept.vrps ≡ vrps.now))
  pub answered :
      EachHistory g old new (λ history. IfSome result (λ vrps. AreVrpsOn history day (set.items vrps.now)))

-- it has once the loan is over
abbrev pub Lends : (S : RattleType) → Ghosts S.Denot → ℕ → MutBor (Desk S.Denot) → Option (Bor set.VrpSet) → Fml
Lends S g day desk result = Rests (the_row S g) desk (HasLent g day desk.now result)
