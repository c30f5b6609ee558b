use Rattle.store.proofs.Vocabulary.{FitIfAny}
use Rattle.store.proofs.StoreLemmas.{refused_held}
use Rattle.store.proofs.store.Store.load_holder.Goals as goal

pub returns-clause-schema : goal.returns-clause-schema
returns-clause-schema g c clean refused = refused_held g.S.Store c.self.view_is c.load_rows.ensures.asked clean (λ rows. ¬ FitIfAny (rows.of_holder c.args.holder.now)) (c.load_rows.ensures.schema clean refused)
