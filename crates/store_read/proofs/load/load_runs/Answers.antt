use Rattle.store_read.proofs.Vocabulary.{◌∙◌, ⊤, state, refused_by}
use Rattle.store_read.proofs.Loading.{all_spans_fit, never_fit, same-permuted}
use Rattle.store_read.proofs.load.load_runs.Goals as goal

pub returns-in_err-spans-clause-schema : goal.returns-in_err-spans-clause-schema
returns-in_err-spans-clause-schema g c clean is =
    never_fit (λ _. ⊤) (state g.S.Store c.args.conn.now) (λ o _. all_spans_fit _)
    (c.load_values.ensures.schema clean (refused_by _ _ _ c.in_err-spans.was c.from_residual.ensures.1 is))

pub returns-clause-found : goal.returns-clause-found
returns-clause-found g c clean charter all holds a =
    let spans = c.in_ok-spans.ensures.found clean charter all holds in
    rw c.deref.ensures.value at (c.in_ok-holdings_of.ensures.same a) ∙ same-permuted _ c.in_ok-spans.spans.items spans a
