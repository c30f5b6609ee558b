use Rattle.payload.proofs.Vocabulary.{take, AreNoShorter}
use Rattle.payload.proofs.shortest.Shortest.of.Given as goal

abbrev pub invariant-loop-vrp : goal.invariant-loop-vrp
invariant-loop-vrp l = AreNoShorter l.shortest (take l.vrp-index l.vrps)
