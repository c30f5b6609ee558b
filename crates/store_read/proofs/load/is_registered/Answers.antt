use Rattle.store_read.proofs.Vocabulary.{ap, ◌∙◌, is_some, refused_by}
use Rattle.store_read.proofs.Loading.{counted}
use Rattle.store_read.proofs.load.is_registered.Goals as goal

pub returns-in_err-counters-clause-schema : goal.returns-in_err-counters-clause-schema
returns-in_err-counters-clause-schema g c clean is = c.load_counters.ensures.schema clean (refused_by _ _ _ c.in_err-counters.was c.from_residual.ensures.1 is)

pub returns-clause-found : goal.returns-clause-found
returns-clause-found g c clean charter all holds =
    c.is_some.ensures ∙ ap is_some (c.in_ok-counters.ensures.found clean charter all holds) ∙ counted (all.of_holder c.args.holder.now)
