use Rattle.store_schema.proofs.Vocabulary.{arith, on_ok_weaker, stays_then}
use Rattle.store_schema.proofs.MovingSteps.{moves_rows}
use Rattle.store_schema.proofs.upgrade.move_rows.Goals as goal

pub returns-clause-moved : goal.returns-clause-moved
returns-clause-moved g c clean =
    let edited = c.in_ok-edit_rows.ensures.moved (omega (arith, c.execute.ensures.inside.survives.clean)) in
    on_ok_weaker c.execute.result (moves_rows _ _ _ edited) (c.execute.ensures.ran clean)

pub returns-clause-inside : goal.returns-clause-inside
returns-clause-inside g c = stays_then g.S.Store _ _ _ c.edit_rows.ensures.inside c.execute.ensures.inside
