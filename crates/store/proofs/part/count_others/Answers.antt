use Rattle.store.proofs.Vocabulary.{inl, arith}
use Rattle.store.proofs.part.count_others.Goals as goal

pub returns-clause-found : goal.returns-clause-found
returns-clause-found g c clean charter all holds few =
    inl (omega (arith, few, c.in_ok-count.ensures.found clean charter all holds, c.saturating_sub.ensures))
