use Rattle.store.proofs.Vocabulary.{FitIfAny, refused_by, AreCounted}
use Rattle.store.proofs.StoreLemmas.{found_held, refused_held}
use Rattle.store.proofs.store.Store.load_counted.Goals as goal

pub returns-in_err-load_grants_counted-clause-schema : goal.returns-in_err-load_grants_counted-clause-schema
returns-in_err-load_grants_counted-clause-schema g c clean is =
    let refused = refused_by _ _ _ c.in_err-load_grants_counted.was c.from_residual.ensures.1 is in
    refused_held g.S.Store c.self.view_is c.load_grants_counted.ensures.asked clean (λ rows. ¬ FitIfAny (rows.of_holder c.args.holder.now)) (c.load_grants_counted.ensures.schema clean refused)

pub returns-clause-found : goal.returns-clause-found
returns-clause-found g c clean =
    rw c.alone.ensures (found_held g.S.Store c.self.view_is c.in_ok-load_grants_counted.ensures.asked clean (λ loaded rows. AreCounted (rows.of_holder c.args.holder.now) loaded) (c.in_ok-load_grants_counted.ensures.found clean))
