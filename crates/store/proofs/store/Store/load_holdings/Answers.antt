use Rattle.store.proofs.Vocabulary.{FitIfAny, AreHoldings}
use Rattle.store.proofs.StoreLemmas.{found_held, refused_held}
use Rattle.store.proofs.store.Store.load_holdings.Goals as goal

pub returns-clause-schema : goal.returns-clause-schema
returns-clause-schema g c clean refused = refused_held g.S.Store c.self.view_is c.load_holdings.ensures.asked clean (λ rows. ¬ FitIfAny (rows.of_holder c.args.holder.now)) (c.load_holdings.ensures.schema clean refused)

pub returns-clause-found : goal.returns-clause-found
returns-clause-found g c clean = found_held g.S.Store c.self.view_is c.load_holdings.ensures.asked clean (λ part rows. AreHoldings (rows.of_holder c.args.holder.now) part) (c.load_holdings.ensures.found clean)
