use Rattle.store.proofs.Vocabulary.{FitIfAny, AreNumbered}
use Rattle.store.proofs.StoreLemmas.{found_held, refused_held}
use Rattle.store.proofs.store.Store.load_numbered.Goals as goal

pub returns-clause-found : goal.returns-clause-found
returns-clause-found g c clean = found_held g.S.Store c.self.view_is c.load_numbered.ensures.asked clean (λ loaded rows. AreNumbered c.args.number (rows.of_holder c.args.holder.now) loaded) (c.load_numbered.ensures.found clean)

pub returns-clause-schema : goal.returns-clause-schema
returns-clause-schema g c clean refused = refused_held g.S.Store c.self.view_is c.load_numbered.ensures.asked clean (λ rows. ¬ FitIfAny (rows.of_holder c.args.holder.now)) (c.load_numbered.ensures.schema clean refused)
