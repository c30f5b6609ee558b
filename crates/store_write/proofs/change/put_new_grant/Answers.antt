use Rattle.store_write.proofs.Vocabulary.{[], ◌∷◌, refl, Grant, edited, with_grants, with_granted}
use Rattle.store_write.proofs.RowSteps.{done_after}
use Rattle.store_write.proofs.change.put_new_grant.Goals as goal

pub returns-clause-done : goal.returns-clause-done
returns-clause-done g c =
    let x = c.args.grant.now in
    done_after g.S.Store c.set_granted.result c.args.holder.now (with_grants (x ∷ [])) (with_granted x.number) (edited (Grant x)) c.args.tx.now _ _ (λ r. refl) c.set_granted.ensures.inside c.in_ok-put.ensures.done c.set_granted.ensures.done
