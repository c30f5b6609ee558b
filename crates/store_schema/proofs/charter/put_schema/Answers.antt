use Rattle.store_schema.proofs.Vocabulary.{refl, means}
use Rattle.store_schema.proofs.CharterSteps.{puts_schema}
use Rattle.store_schema.proofs.charter.put_schema.Goals as goal

pub returns-clause-put : goal.returns-clause-put
returns-clause-put g c = means g.S.Store c.execute.result _ _ _ _ _ _ c.requires c.execute.ensures.inside c.execute.ensures.ran refl (λ old new. puts_schema old new)
