use Rattle.store_schema.proofs.Vocabulary.{arith}
use Rattle.store_schema.proofs.MovingSteps.{drops_index}
use Rattle.store_schema.proofs.upgrade.drop_index.Goals as goal

pub returns-in_ok-execute-clause-dropped : goal.returns-in_ok-execute-clause-dropped
returns-in_ok-execute-clause-dropped g c clean =
    let start = c.requires (omega (arith, c.execute.ensures.inside.survives.clean)) in
    drops_index c.args.has_index _ _ c.if-has_index.true start (c.in_ok-execute.ensures.ran clean)
