use Rattle.store_schema.proofs.CharterSteps.{puts_operator}
use Rattle.store_schema.proofs.Vocabulary.{means}
use Rattle.store_schema.proofs.charter.put_operator.Goals as goal

pub returns-clause-put : goal.returns-clause-put
returns-clause-put g c = means g.S.Store c.execute.result _ _ _ _ _ _ c.requires c.execute.ensures.inside c.execute.ensures.ran c.name_values.ensures (λ old new. puts_operator old new c.args.name.now)
