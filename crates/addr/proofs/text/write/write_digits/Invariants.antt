use Rattle.addr.proofs.Vocabulary.{◌≡◌, ◌++◌, length, drop, digits_in}
use Rattle.addr.proofs.text.write.write_digits.Given as goal

abbrev pub invariant-loop-i : goal.invariant-loop-i
invariant-loop-i l = digits_in l.base (length l.digits) l.fn.number ≡ digits_in l.base l.i l.number ++ drop l.i l.digits
