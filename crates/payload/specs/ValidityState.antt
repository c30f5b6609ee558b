-- A validity is one of the three states of RFC 6811 section 2.
use Rattle.addr.specs.OriginValidation as origin
use Rattle.payload.specs.declared.validity.Validity.{Validity}
use Rattle.payload.specs.declared.validity.Validity.TheVariants.{Valid, Invalid, NotFound}

abbrev pub state_of : Validity → origin.ValidationState
state_of Valid = origin.Valid
state_of Invalid = origin.Invalid
state_of NotFound = origin.NotFound
