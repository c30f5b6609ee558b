-- What becomes of a day that is kept where authorizations end and begin.
use Rattle.std.specs.Prelude.{◌≡◌, ◌⊎◌, List, Any, Contains}
use Rattle.addr.specs.declared.vrp.Vrp.{Vrp}
use Rattle.payload.specs.VrpSet as set
use Rattle.registry.specs.declared.authorization.Auth.{Auth}
use Rattle.slurm.specs.Filter.{FilterMatches}
use Rattle.daily_vrps.specs.Giving.{AreGivingOn, GivesOn}
use Rattle.daily_vrps.specs.KeptDay.{KeptDay}

-- the day is the same, and so are the exceptions
pub record IsWithSame (old new : KeptDay) : Type 0 where
  pub day : new.day ≡ old.day
  pub filters : new.filters ≡ old.filters
  pub asserted : new.asserted ≡ old.asserted

-- it was there, and the authorization does not give it on the day, or it is asserted
abbrev pub IsLeft : KeptDay → Auth → Vrp → Type 0
IsLeft kept auth v =
    Contains (set.items kept.vrps) v
    × ((¬ GivesOn auth kept.day v) ⊎ Contains (set.items kept.asserted) v)

-- it was there, and none of the authorizations gives it on the day, or it is asserted
abbrev pub AreLeft : KeptDay → List Auth → Vrp → Type 0
AreLeft kept auths v =
    Contains (set.items kept.vrps) v
    × ((¬ AreGivingOn auths kept.day v) ⊎ Contains (set.items kept.asserted) v)

-- it was there, or the authorization gives it on the day and no filter matches it
abbrev pub IsJoined : KeptDay → Auth → Vrp → Type 0
IsJoined kept auth v =
    Contains (set.items kept.vrps) v
    ⊎ (GivesOn auth kept.day v × ¬ Any (λ filter. FilterMatches filter v) kept.filters)

-- it was there, or one of the authorizations gives it on the day and no filter matches it
abbrev pub AreJoined : KeptDay → List Auth → Vrp → Type 0
AreJoined kept auths v =
    Contains (set.items kept.vrps) v
    ⊎ (AreGivingOn auths kept.day v × ¬ Any (λ filter. FilterMatches filter v) kept.filters)

-- it is one of these, no filter matches it, and it was not there
abbrev pub IsAdded : KeptDay → (Vrp → Type 0) → Vrp → Type 0
IsAdded kept These v =
    These v × (¬ Any (λ filter. FilterMatches filter v) kept.filters)
    × ¬ Contains (set.items kept.vrps) v

-- it was there, and no authorization that ends gives it on the day, or it is asserted; or one that
-- begins gives it on the day and no filter matches it
abbrev pub AreExchanged : KeptDay → List Auth → List Auth → Vrp → Type 0
AreExchanged kept ended begun v =
    AreLeft kept ended v
    ⊎ (AreGivingOn begun kept.day v × ¬ Any (λ filter. FilterMatches filter v) kept.filters)

-- no authorization that ends gives it on the day, or one that begins gives it too, or it is asserted
abbrev pub IsSpared : KeptDay → List Auth → List Auth → Vrp → Type 0
IsSpared kept ended begun v =
    (¬ AreGivingOn ended kept.day v)
    ⊎ (AreGivingOn begun kept.day v ⊎ Contains (set.items kept.asserted) v)
