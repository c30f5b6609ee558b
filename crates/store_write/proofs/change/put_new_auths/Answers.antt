use Rattle.store_write.proofs.Vocabulary.{refl, with_auths, with_created, with_new_auths}
use Rattle.store_write.proofs.RowSteps.{done_after}
use Rattle.store_write.proofs.change.put_new_auths.Goals as goal

pub returns-clause-done : goal.returns-clause-done
returns-clause-done g c =
    let xs = c.args.auths.now in
    let made = c.args.created in
    done_after g.S.Store c.set_created.result c.args.holder.now (with_auths xs) (with_created made) (with_new_auths xs made) c.args.tx.now _ _ (λ r. refl) c.set_created.ensures.inside c.in_ok-put_rows.ensures.done c.set_created.ensures.done
