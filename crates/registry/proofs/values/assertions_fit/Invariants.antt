use Rattle.registry.proofs.Vocabulary.{All, take, VrpFits}
use Rattle.registry.proofs.values.assertions_fit.Given as goal

abbrev pub invariant-loop-assertion : goal.invariant-loop-assertion
invariant-loop-assertion l = All VrpFits (take l.assertion-index l.assertions)
