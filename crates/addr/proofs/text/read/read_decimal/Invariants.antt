use Rattle.addr.proofs.Vocabulary.{◌≡◌, take, AllDigits, digits_value}
use Rattle.addr.proofs.text.read.read_decimal.Given as goal

abbrev pub invariant-loop-digit : goal.invariant-loop-digit
invariant-loop-digit l =
    AllDigits 10 (take l.digit-index l.digits)
    × (l.number ≡ digits_value 10 (take l.digit-index l.digits))
