use Rattle.store_schema.proofs.Vocabulary.{arith, on_ok_weaker, stays_then}
use Rattle.store_schema.proofs.MakingSteps.{makes_last}
use Rattle.store_schema.proofs.make.make_last_tables.Goals as goal

pub returns-clause-made : goal.returns-clause-made
returns-clause-made g c clean =
    let before = c.execute.ensures.inside.survives.clean in
    let start = c.requires (omega (arith, c.make_claim_tables.ensures.inside.survives.clean, before)) in
    on_ok_weaker c.execute.result (makes_last _ _ _ start (c.in_ok-make_claim_tables.ensures.made (omega (arith, before)))) (c.execute.ensures.ran clean)

pub returns-clause-inside : goal.returns-clause-inside
returns-clause-inside g c = stays_then g.S.Store _ _ _ c.make_claim_tables.ensures.inside c.execute.ensures.inside
