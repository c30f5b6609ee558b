use Rattle.store_write.proofs.Vocabulary.{arith, take, ◌+◌, taken_more}
use Rattle.store_write.proofs.AuthSteps.{puts_more}
use Rattle.store_write.proofs.InTurn.{one_more}
use Rattle.store_write.proofs.auth.put_entries.Goals as goal

pub loop-entry-preserved : goal.loop-entry-preserved
loop-entry-preserved g c =
    let xs = c.args.entries.now in
    let i = c.loop-entry.entry-index in
    let x = c.entry-item.result in
    one_more g.S.Store (puts_more c.args.holder.now c.args.claim.now (take i xs) x (take (i + 1) xs) _ _ _ (taken_more xs i x (omega arith) c.entry-item.is))
    c.loop-entry.invariant c.put_entry.ensures.inside (λ clean. rw c.entry_row_of.ensures at (c.in_ok-put_entry.ensures.done clean))
