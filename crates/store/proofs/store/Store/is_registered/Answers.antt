use Rattle.store.proofs.Vocabulary.{◌≡◌, is_some, FitIfAny}
use Rattle.store.proofs.StoreLemmas.{found_held, refused_held}
use Rattle.store.proofs.store.Store.is_registered.Goals as goal

pub returns-clause-found : goal.returns-clause-found
returns-clause-found g c clean = found_held g.S.Store c.self.view_is c.is_registered.ensures.asked clean (λ registered rows. registered ≡ is_some (rows.of_holder c.args.holder.now)) (c.is_registered.ensures.found clean)

pub returns-clause-schema : goal.returns-clause-schema
returns-clause-schema g c clean refused = refused_held g.S.Store c.self.view_is c.is_registered.ensures.asked clean (λ rows. ¬ FitIfAny (rows.of_holder c.args.holder.now)) (c.is_registered.ensures.schema clean refused)
