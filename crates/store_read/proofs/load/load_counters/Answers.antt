use Rattle.store_read.proofs.Vocabulary.{◌≡◌, slice_get, ◌∙◌, state, refused_by}
use Rattle.store_read.proofs.Loading.{CountersFit, counters_fit, first_counters, never_fit}
use Rattle.store_read.proofs.load.load_counters.Goals as goal

pub returns-in_err-counters-clause-schema : goal.returns-in_err-counters-clause-schema
returns-in_err-counters-clause-schema g c clean is =
    never_fit CountersFit (state g.S.Store c.args.conn.now) counters_fit
    (c.load_values.ensures.schema clean (refused_by _ _ _ c.in_err-counters.was c.from_residual.ensures.1 is))

pub returns-clause-found : goal.returns-clause-found
returns-clause-found g c clean charter all holds =
    let items = c.in_ok-counters.counters.items in
    let first : c.copied.result ≡ slice_get items 0 = rw c.deref.ensures.value at (c.copied.ensures ∙ c.first.ensures.value) in
    first ∙ first_counters (all.of_holder c.args.holder.now) items (c.in_ok-counters.ensures.found clean charter all holds)
