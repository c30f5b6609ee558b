use Rattle.store_schema.proofs.Vocabulary.{arith}
use Rattle.store_schema.proofs.MakingSteps.{makes_old_index}
use Rattle.store_schema.proofs.make.make_old_index.Goals as goal

pub returns-in_ok-execute-clause-made : goal.returns-in_ok-execute-clause-made
returns-in_ok-execute-clause-made g c clean =
    let start = c.requires (omega (arith, c.execute.ensures.inside.survives.clean)) in
    makes_old_index c.args.is_wanted _ _ c.if-is_wanted.true start (c.in_ok-execute.ensures.ran clean)
