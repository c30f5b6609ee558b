use Rattle.addr.proofs.Vocabulary.{◌≡◌, ◌^◌, ◌<◌, take, number_from_digits}
use Rattle.addr.proofs.text.read.number_of.Given as goal

abbrev pub invariant-loop-group : goal.invariant-loop-group
invariant-loop-group l =
    (l.number ≡ number_from_digits 0x10000 (take l.group-index l.groups))
    × (l.number < 0x10000 ^ l.group-index)
