-- How what is kept of a day follows a change, by the authorizations that are enough to follow it.
use Rattle.std.specs.Prelude.{◌≡◌, ◌↔◌, ◌⊎◌, ℕ, ◌≤◌, false, List, Option, Some, None, option_map, Result, Ok, Err, Contains, IfSome, ⊤}
use Rattle.std.specs.Global.{Vec}
use Rattle.addr.specs.declared.vrp.Vrp.{Vrp}
use Rattle.daily_vrps.specs.Changes.{AreJoined, IsAdded, IsSpared, IsWithSame}
use Rattle.daily_vrps.specs.Days.{IsDayOfRows}
use Rattle.daily_vrps.specs.Giving.{AreGivingOn}
use Rattle.daily_vrps.specs.KeptDay.{KeptDay}
use Rattle.payload.specs.VrpSet as set
use Rattle.registry.specs.Edits.{IsHold}
use Rattle.registry.specs.History.{same_name}
use Rattle.registry.specs.RowsOfAll.{AllRows, changed_rows}
use Rattle.registry.specs.declared.authorization.Auth.{Auth}
use Rattle.registry.specs.declared.change.Change.{Change}
use Rattle.registry.specs.declared.change.Change.TheVariants.{Holders, Exceptions}
use Rattle.registry.specs.declared.change.Edit.{Edit}
use Rattle.registry.specs.declared.change.Edit.TheVariants.{Create, Import, Amend}
use Rattle.store.specs.Given.{GivenOnce}
use Rattle.desk.specs.Prepared.{day_of}
use Rattle.desk.specs.declared.reply.Reply.{Reply}
use Rattle.desk.specs.declared.reply.Reply.TheVariants.{Unavailable}
use Rattle.desk.specs.steps.EditsGiven.{ended_if_any, begun_if_any, auths_of, AreEnough}

abbrev pub listed : Option (Vec Auth) → Option (List Auth)
listed auths = option_map (λ xs. xs.items) auths

-- of the authorizations of each holder whose rows the change edits, these are enough to follow it
abbrev pub AreEnoughFor : Change → Option (Vec Auth) → Option (Vec Auth) → AllRows → Type 0
AreEnoughFor (Holders first None) one other rows = AreEnough first.edit (auths_of rows first.holder) (listed one)
AreEnoughFor (Holders first (Some second)) one other rows =
    AreEnough first.edit (auths_of rows first.holder) (listed one)
    × AreEnough second.edit (auths_of rows second.holder) (listed other)
AreEnoughFor (Exceptions files) one other rows = ⊤

-- of two holders, the change edits another second, and begins no authorization of the first
abbrev pub EditsTwoApart : Change → Type 0
EditsTwoApart (Holders first (Some second)) =
    (same_name first.holder second.holder ≡ false) × IsHold first.edit
EditsTwoApart change = ⊤

-- what is kept follows an edit by these authorizations
abbrev pub FollowsEdit : Edit → Option (Vec Auth) → KeptDay → KeptDay → Type 0
FollowsEdit edit auths old new =
    IsWithSame old new
    × ((v : Vrp) → Contains (set.items new.vrps) v
    ↔ (AreJoined old (begun_if_any edit (listed auths)) v
    × IsSpared old (ended_if_any edit (listed auths)) (begun_if_any edit (listed auths)) v))

-- and follows the edits of a change, one after the other; other exceptions it does not follow
abbrev pub FollowsChange : Change → Option (Vec Auth) → Option (Vec Auth) → KeptDay → KeptDay → Type 0
FollowsChange (Holders first None) one other old new = FollowsEdit first.edit one old new
FollowsChange (Holders first (Some second)) one other old new =
    (mid : KeptDay) × FollowsEdit first.edit one old mid × FollowsEdit second.edit other mid new
FollowsChange (Exceptions files) one other old new = ⊥

-- an authorization that the edit puts is in force on the day
abbrev pub BeginsOn : Edit → ℕ → Type 0
BeginsOn (Create x) day = (x.from ≤ day) × (day ≤ x.until)
BeginsOn (Import auths created) day = (x : Auth) × Contains auths.items x × (x.from ≤ day) × (day ≤ x.until)
BeginsOn (Amend x) day = (x.from ≤ day) × (day ≤ x.until)
BeginsOn _ day = ⊥

-- the edit, by these authorizations, puts a VRP into what is kept
abbrev pub AddsSome : Edit → Option (Vec Auth) → KeptDay → Type 0
AddsSome edit auths kept =
    (v : Vrp) × IsAdded kept (AreGivingOn (begun_if_any edit (listed auths)) kept.day) v

-- what is kept may be dropped: an edit puts a VRP into it, or the change brings new exceptions
abbrev pub MayDrop : Change → Option (Vec Auth) → Option (Vec Auth) → KeptDay → Type 0
MayDrop (Holders first None) one other kept = AddsSome first.edit one kept
MayDrop (Holders first (Some second)) one other kept =
    AddsSome first.edit one kept ⊎ ((mid : KeptDay) × AddsSome second.edit other mid)
MayDrop (Exceptions files) one other kept = ⊤

-- the kept day is of the rows after the change, if it was of the rows before it
abbrev pub Follows :
    Change → Option (Vec Auth) → Option (Vec Auth) → Option KeptDay → Option KeptDay → Type 0
Follows change one other old new =
    (rows : AllRows) → GivenOnce rows → AreEnoughFor change one other rows
    → IfSome old (IsDayOfRows rows) → IfSome new (IsDayOfRows (changed_rows change rows))

-- the kept day stays, or is dropped if it may be; new exceptions drop it
abbrev pub FollowsDay :
    Change → Option (Vec Auth) → Option (Vec Auth) → Option KeptDay → Option KeptDay → Type 0
FollowsDay (Exceptions files) one other old new = new ≡ None
FollowsDay change one other old new =
    (day_of new ≡ day_of old) ⊎ ((new ≡ None) × IfSome old (MayDrop change one other))

-- the reply if there is one; a fault is reported as Unavailable
abbrev pub reply_of : {E : Type 0} → Result Reply E → Reply
reply_of (Ok reply) = reply
reply_of (Err fault) = Unavailable
