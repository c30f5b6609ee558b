use Rattle.store.proofs.Vocabulary.{FitIfAny, AreListed}
use Rattle.store.proofs.StoreLemmas.{found_held, refused_held}
use Rattle.store.proofs.store.Store.load_listed.Goals as goal

pub returns-clause-found : goal.returns-clause-found
returns-clause-found g c clean = found_held g.S.Store c.self.view_is c.load_listed.ensures.asked clean (λ loaded rows. AreListed (rows.of_holder c.args.holder.now) loaded) (c.load_listed.ensures.found clean)

pub returns-clause-schema : goal.returns-clause-schema
returns-clause-schema g c clean refused = refused_held g.S.Store c.self.view_is c.load_listed.ensures.asked clean (λ rows. ¬ FitIfAny (rows.of_holder c.args.holder.now)) (c.load_listed.ensures.schema clean refused)
