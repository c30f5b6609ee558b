use Rattle.store_schema.proofs.Vocabulary.{arith, prefix_cells, puts_none, puts_along, stays, stays_then}
use Rattle.store_schema.proofs.charter.put_pool.Goals as goal

pub loop-prefix-init : goal.loop-prefix-init
loop-prefix-init g c = (stays g.S.Store _, λ clean. puts_none _ _ (c.requires clean))

pub loop-prefix-preserved : goal.loop-prefix-preserved
loop-prefix-preserved g c =
    let inside = c.put_prefix.ensures.inside in (
      stays_then g.S.Store _ _ _ c.loop-prefix.invariant.0 inside,
      λ clean. puts_along _ prefix_cells c.args.prefixes.now c.loop-prefix.prefix-index c.prefix-item.result _ _ _ (omega arith) c.prefix-item.is
          (c.loop-prefix.invariant.1 (omega (arith, inside.survives.clean))) (c.in_ok-put_prefix.ensures.put clean),
    )
