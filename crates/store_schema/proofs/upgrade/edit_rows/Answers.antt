use Rattle.store_schema.proofs.Vocabulary.{arith, on_ok_weaker, stays_then}
use Rattle.store_schema.proofs.MovingSteps.{edits_rows}
use Rattle.store_schema.proofs.upgrade.edit_rows.Goals as goal

pub returns-in_err-execute-2-clause-inside : goal.returns-in_err-execute-2-clause-inside
returns-in_err-execute-2-clause-inside g c = stays_then g.S.Store _ _ _ c.execute.ensures.inside c.execute-2.ensures.inside

pub returns-in_err-execute-3-clause-inside : goal.returns-in_err-execute-3-clause-inside
returns-in_err-execute-3-clause-inside g c = stays_then g.S.Store _ _ _ (stays_then g.S.Store _ _ _ c.execute.ensures.inside c.execute-2.ensures.inside) c.execute-3.ensures.inside

pub returns-clause-moved : goal.returns-clause-moved
returns-clause-moved g c clean =
    let before_4 = c.execute-4.ensures.inside.survives.clean in
    let before_3 = c.execute-3.ensures.inside.survives.clean in
    let before_2 = c.execute-2.ensures.inside.survives.clean in
    let start = c.requires (omega (arith, c.execute.ensures.inside.survives.clean, before_2, before_3, before_4)) in
    let claims = c.in_ok-execute.ensures.ran (omega (arith, before_2, before_3, before_4)) in
    let entries = c.in_ok-execute-2.ensures.ran (omega (arith, before_3, before_4)) in
    let emptied = c.in_ok-execute-3.ensures.ran (omega (arith, before_4)) in
    on_ok_weaker c.execute-4.result (edits_rows _ _ _ _ _ start claims entries emptied) (c.execute-4.ensures.ran clean)

pub returns-clause-inside : goal.returns-clause-inside
returns-clause-inside g c =
    stays_then g.S.Store _ _ _ (stays_then g.S.Store _ _ _ (stays_then g.S.Store _ _ _ c.execute.ensures.inside c.execute-2.ensures.inside) c.execute-3.ensures.inside) c.execute-4.ensures.inside
