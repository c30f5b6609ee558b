use Rattle.payload.proofs.Vocabulary.{length, AreNoShorter}
use Rattle.payload.proofs.Left.{IsLeft}
use Rattle.payload.proofs.search.validity.Given as goal

abbrev pub invariant-loop-vrp : goal.invariant-loop-vrp
invariant-loop-vrp l = record {
  left : IsLeft l.vrps l.rest l.route l.is_covered;
  no_shorter : AreNoShorter l.shortest l.rest;
}

abbrev pub decreases-loop-vrp : goal.decreases-loop-vrp
decreases-loop-vrp l = length l.rest
