use Rattle.roa.proofs.Vocabulary.{◌≡◌, take, be_value}
use Rattle.roa.proofs.reading.number_of.Given as goal

abbrev pub invariant-loop-octet : goal.invariant-loop-octet
invariant-loop-octet l = l.number ≡ be_value (take l.octet-index l.octets)
