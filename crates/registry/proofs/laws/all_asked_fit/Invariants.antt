use Rattle.registry.proofs.Vocabulary.{All, take, AskedFits}
use Rattle.registry.proofs.laws.all_asked_fit.Given as goal

abbrev pub invariant-loop-asked : goal.invariant-loop-asked
invariant-loop-asked l = All AskedFits (take l.asked-index l.list)
