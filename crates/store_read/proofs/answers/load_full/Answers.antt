use Rattle.store_read.proofs.Vocabulary.{ap, nat_le, MOST_AUTHORIZATIONS}
use Rattle.store_read.proofs.answers.load_full.Goals as goal

pub returns-clause-found : goal.returns-clause-found
returns-clause-found g c clean charter all holds = ap (nat_le MOST_AUTHORIZATIONS) (c.in_ok-count.ensures.found clean charter all holds)
