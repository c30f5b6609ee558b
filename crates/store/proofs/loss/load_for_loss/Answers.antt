use Rattle.store.proofs.Vocabulary.{refl, subst, refused_by, AreHoldings, earlier, later, unfit_later}
use Rattle.store.proofs.LossFound.{no_loss, some_loss}
use Rattle.store.proofs.loss.load_for_loss.Goals as goal

pub returns-in_err-held-clause-schema : goal.returns-in_err-held-clause-schema
returns-in_err-held-clause-schema g c clean is = c.load_holdings.ensures.schema clean (refused_by _ _ _ c.in_err-held.was c.from_residual.ensures.1 is)

pub returns-in_default-clause-found : goal.returns-in_default-clause-found
returns-in_default-clause-found g c clean charter all holds =
    let o = all.of_holder c.args.holder.now in
    no_loss c.args.prefix.now o (subst (AreHoldings o) c.in_default.is (c.in_ok-held.ensures.found clean charter all holds))

pub returns-in_err-auths-clause-schema : goal.returns-in_err-auths-clause-schema
returns-in_err-auths-clause-schema g c clean is =
    unfit_later g.S.Store c.in_ok-held.ensures.asked (earlier g.S.Store c.load_overlapping.ensures.asked clean)
    (c.load_overlapping.ensures.schema clean (refused_by _ _ _ c.in_err-auths.was c.from_residual-in_err-auths.ensures.1 is))

pub returns-clause-found : goal.returns-clause-found
returns-clause-found g c clean charter all holds =
    let o = all.of_holder c.args.holder.now in
    let before = earlier g.S.Store c.load_overlapping.ensures.asked clean in
    some_loss c.args.prefix.now o c.in-Some.held _ refl (subst (AreHoldings o) c.in-Some.is (c.in_ok-held.ensures.found before charter all holds))
    (c.in_ok-auths.ensures.found clean charter all (later g.S.Store c.in_ok-held.ensures.asked before charter all holds))
