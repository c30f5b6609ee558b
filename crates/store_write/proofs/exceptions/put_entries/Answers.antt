use Rattle.store_write.proofs.Vocabulary.{arith, ap, ◌+◌}
use Rattle.store_write.proofs.ExceptionSteps.{puts_entry}
use Rattle.store_write.proofs.InTurn.{one_more}
use Rattle.store_write.proofs.exceptions.put_entries.Goals as goal

pub loop-entry-preserved : goal.loop-entry-preserved
loop-entry-preserved g c =
    let at = ap (λ n. n + 1) c.loop-entry.invariant.0 in (
      at,
      one_more g.S.Store (puts_entry c.args.file.now g.T.ExceptionEntry.as_exception c.args.entries.now c.loop-entry.entry-index c.entry-item.result (c.loop-entry.position + 1) _ _ _ (omega arith) c.entry-item.is at)
          c.loop-entry.invariant.1 c.put_exception.ensures.inside (λ clean. rw c.as_exception.ensures at (c.in_ok-put_exception.ensures.done clean)),
    )
