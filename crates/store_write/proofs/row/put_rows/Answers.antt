use Rattle.store_write.proofs.Vocabulary.{arith, [], ◌∷◌, take, ◌+◌, state_in, taken_more, stays}
use Rattle.store_write.proofs.InTurn.{one_more}
use Rattle.store_write.proofs.RowSteps.{done_none, done_more}
use Rattle.store_write.proofs.row.put_rows.Goals as goal

pub loop-row-init : goal.loop-row-init
loop-row-init g c =
    (stays g.S.Store _, λ clean. done_none c.args.holder.now (g.T.HolderRow.added []) (state_in g.S.Store c.args.tx.now) g.met.T.HolderRow.none_added (c.requires clean))

pub loop-row-preserved : goal.loop-row-preserved
loop-row-preserved g c =
    let added = g.T.HolderRow.added in
    let xs = c.args.rows.now in
    let i = c.loop-row.row-index in
    let x = c.row-item.result in
    one_more g.S.Store (done_more c.args.holder.now added (added (x ∷ [])) (take i xs) x (take (i + 1) xs) _ _ _ (taken_more xs i x (omega arith) c.row-item.is) (g.met.T.HolderRow.one_more_added (take i xs) x))
    c.loop-row.invariant c.put.ensures.inside c.in_ok-put.ensures.done
