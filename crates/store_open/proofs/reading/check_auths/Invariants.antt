use Rattle.store_open.proofs.Grouped.{Walks}
use Rattle.store_open.proofs.reading.check_auths.Given as goal

abbrev pub invariant-loop-claim : goal.invariant-loop-claim
invariant-loop-claim l = Walks l.claims l.entries l.claim-index l.rest
