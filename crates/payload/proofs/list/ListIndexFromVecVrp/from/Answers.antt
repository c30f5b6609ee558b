use Rattle.payload.proofs.Vocabulary.{subst, AreNoShorter}
use Rattle.payload.proofs.Places.{rising-from_sorted, same-members}
use Rattle.payload.proofs.list.ListIndexFromVecVrp.from.Goals as goal

pub invariant_of-result : goal.invariant_of-result
invariant_of-result c = (rising-from_sorted _ c.sort_and_dedup.ensures.rising, subst (AreNoShorter c.of-shortest.result) c.deref.ensures.value c.of-shortest.ensures)

pub returns : goal.returns
returns c = same-members _ _ c.sort_and_dedup.ensures.members
