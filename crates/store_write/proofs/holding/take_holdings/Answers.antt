use Rattle.store_write.proofs.Vocabulary.{arith, [], ◌∷◌, take, ◌+◌, without_holdings, state_in, taken_more, stays}
use Rattle.store_write.proofs.InTurn.{one_more}
use Rattle.store_write.proofs.RowSteps.{none_taken, one_holding_less, done_none, done_more}
use Rattle.store_write.proofs.holding.take_holdings.Goals as goal

pub loop-span-init : goal.loop-span-init
loop-span-init g c = (stays g.S.Store _, λ clean. done_none c.args.holder.now (without_holdings []) (state_in g.S.Store c.args.tx.now) none_taken (c.requires clean))

pub loop-span-preserved : goal.loop-span-preserved
loop-span-preserved g c =
    let xs = c.args.spans.now in
    let i = c.loop-span.span-index in
    let x = c.span-item.result in
    one_more g.S.Store (done_more c.args.holder.now without_holdings (without_holdings (x ∷ [])) (take i xs) x (take (i + 1) xs) _ _ _ (taken_more xs i x (omega arith) c.span-item.is) (one_holding_less (take i xs) x))
    c.loop-span.invariant c.take_holding.ensures.inside c.in_ok-take_holding.ensures.done
