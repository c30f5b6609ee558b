use Rattle.store_schema.proofs.Vocabulary.{arith, on_ok_weaker, stays_then}
use Rattle.store_schema.proofs.MovingSteps.{widens}
use Rattle.store_schema.proofs.upgrade.widen_tables.Goals as goal

pub returns-clause-widened : goal.returns-clause-widened
returns-clause-widened g c clean =
    let dropped = c.in_ok-drop_index.ensures.dropped (omega (arith, c.make_claim_tables.ensures.inside.survives.clean)) in
    on_ok_weaker c.make_claim_tables.result (widens _ _ _ dropped) (c.make_claim_tables.ensures.made clean)

pub returns-clause-inside : goal.returns-clause-inside
returns-clause-inside g c = stays_then g.S.Store _ _ _ c.drop_index.ensures.inside c.make_claim_tables.ensures.inside
