use Rattle.store_schema.proofs.Vocabulary.{arith, operator_row, puts_none, puts_along, stays, stays_then}
use Rattle.store_schema.proofs.charter.put_operators.Goals as goal

pub loop-name-init : goal.loop-name-init
loop-name-init g c = (stays g.S.Store _, λ clean. puts_none _ _ (c.requires clean))

pub loop-name-preserved : goal.loop-name-preserved
loop-name-preserved g c =
    let inside = c.put_operator.ensures.inside in (
      stays_then g.S.Store _ _ _ c.loop-name.invariant.0 inside,
      λ clean. puts_along _ operator_row c.args.names.now c.loop-name.name-index c.name-item.result _ _ _ (omega arith) c.name-item.is
          (c.loop-name.invariant.1 (omega (arith, inside.survives.clean))) (c.in_ok-put_operator.ensures.put clean),
    )
