use Rattle.registry.proofs.Vocabulary.{◌≡◌, length, has_repeat}
use Rattle.registry.proofs.charter.has_repeat.Given as goal

abbrev pub invariant-loop-rest : goal.invariant-loop-rest
invariant-loop-rest g l = has_repeat g.T.PartialEq.eq l.rest ≡ has_repeat g.T.PartialEq.eq l.initial.rest

abbrev pub decreases-loop-rest : goal.decreases-loop-rest
decreases-loop-rest g l = length l.rest
