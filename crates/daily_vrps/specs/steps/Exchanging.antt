-- What an exchange leaves of a day that is kept, by what it takes out and what it puts in.
use Rattle.std.specs.Prelude.{◌⊎◌, ◌≡◌, Bool, true, not, ◌||◌, Contains}
use Rattle.addr.specs.OriginValidation.{ValidationState, Valid, Invalid, NotFound}
use Rattle.addr.specs.declared.vrp.Vrp.{Vrp}
use Rattle.payload.specs.VrpSet as set
use Rattle.daily_vrps.specs.KeptDay.{KeptDay}

-- a kept VRP stays: it is not taken out, or it is asserted
abbrev pub is_left : set.VrpSet → set.VrpSet → Vrp → Bool
is_left ended asserted v = not (set.has_vrp ended v) || set.has_vrp asserted v

-- it was there and stays, or it is put in
abbrev pub IsAfter : KeptDay → set.VrpSet → set.VrpSet → Vrp → Type 0
IsAfter kept ended begun v =
    (Contains (set.items kept.vrps) v × (is_left ended kept.asserted v ≡ true))
    ⊎ Contains (set.items begun) v

-- the state over two sets, by the states over each
abbrev pub over_both : ValidationState → ValidationState → ValidationState
over_both Valid other = Valid
over_both Invalid Valid = Valid
over_both Invalid Invalid = Invalid
over_both Invalid NotFound = Invalid
over_both NotFound other = other
