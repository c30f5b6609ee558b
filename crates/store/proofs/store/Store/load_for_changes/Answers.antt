use Rattle.store.proofs.Vocabulary.{FitIfAny, IsForChanges}
use Rattle.store.proofs.StoreLemmas.{found_held, refused_held}
use Rattle.store.proofs.store.Store.load_for_changes.Goals as goal

pub returns-clause-schema : goal.returns-clause-schema
returns-clause-schema g c clean refused = refused_held g.S.Store c.self.view_is c.load_part.ensures.asked clean (λ rows. ¬ FitIfAny (rows.of_holder c.args.holder.now)) (c.load_part.ensures.schema clean refused)

pub returns-clause-found : goal.returns-clause-found
returns-clause-found g c clean = found_held g.S.Store c.self.view_is c.load_part.ensures.asked clean (λ part rows. IsForChanges c.args.changes.now (rows.of_holder c.args.holder.now) part) (c.load_part.ensures.found clean)
