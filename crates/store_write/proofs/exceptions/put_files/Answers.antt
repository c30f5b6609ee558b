use Rattle.store_write.proofs.Vocabulary.{arith, subst, All-more, IsBounded}
use Rattle.store_write.proofs.ExceptionSteps.{puts_next}
use Rattle.store_write.proofs.InTurn.{one_more}
use Rattle.store_write.proofs.exceptions.put_files.Goals as goal

pub loop-named-preserved : goal.loop-named-preserved
loop-named-preserved g c =
    let files = c.args.files.now in
    let i = c.loop-named.named-index in (
      All-more IsBounded files i c.named-item.result (omega arith) c.loop-named.invariant.0 (subst IsBounded c.named-item.is c.put_file.ensures.bounded),
      one_more g.S.Store (puts_next files i c.named-item.result _ _ _ (omega arith) c.named-item.is) c.loop-named.invariant.1 c.put_file.ensures.inside c.in_ok-put_file.ensures.done,
    )
