use Rattle.store_write.proofs.Vocabulary.{refl, with_holdings, without_holdings, without_auths, with_replaced_holdings}
use Rattle.store_write.proofs.InTurn.{then_done}
use Rattle.store_write.proofs.RowSteps.{done_then, done_after}
use Rattle.store_write.proofs.change.replace_holdings.Goals as goal

pub returns-clause-done : goal.returns-clause-done
returns-clause-done g c =
    let h = c.args.holder.now in
    let gone = c.args.removed.now in
    let spans = c.args.added.now in
    done_after g.S.Store c.take_auths.result h _ (without_auths c.args.ended.now) (with_replaced_holdings gone spans c.args.ended.now) c.args.tx.now _ _ (λ r. refl) c.take_auths.ensures.inside
    (then_done g.S.Store c.put_rows.ensures.inside (done_then h (without_holdings gone) (with_holdings spans) (λ r. with_holdings spans (without_holdings gone r)) _ _ _ (λ r. refl)) c.in_ok-take_holdings.ensures.done c.in_ok-put_rows.ensures.done)
    c.take_auths.ensures.done
