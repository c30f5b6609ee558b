use Rattle.store_read.proofs.Vocabulary.{refl, sym, ◌∙◌, refused_by}
use Rattle.store_read.proofs.InTurn.{earlier, later, unfit_later}
use Rattle.store_read.proofs.Loading.{none_counted, some_counted}
use Rattle.store_read.proofs.answers.load_grants_counted.Goals as goal

pub returns-in_err-granted-clause-schema : goal.returns-in_err-granted-clause-schema
returns-in_err-granted-clause-schema g c clean is = c.load_counters.ensures.schema clean (refused_by _ _ _ c.in_err-granted.was c.from_residual.ensures.1 is)

pub returns-in_default-clause-found : goal.returns-in_default-clause-found
returns-in_default-clause-found g c clean charter all holds =
    none_counted (all.of_holder c.args.holder.now) (sym c.in_default.is ∙ c.in_ok-granted.ensures.found clean charter all holds)

pub returns-in_err-grants-clause-schema : goal.returns-in_err-grants-clause-schema
returns-in_err-grants-clause-schema g c clean is =
    unfit_later g.S.Store c.in_ok-granted.ensures.asked (earlier g.S.Store c.load_grants.ensures.asked clean)
    (c.load_grants.ensures.schema clean (refused_by _ _ _ c.in_err-grants.was c.from_residual-in_err-grants.ensures.1 is))

pub returns-clause-found : goal.returns-clause-found
returns-clause-found g c clean charter all holds =
    let before = earlier g.S.Store c.load_grants.ensures.asked clean in
    let counters = sym c.in-Some.is ∙ c.in_ok-granted.ensures.found before charter all holds in
    some_counted (all.of_holder c.args.holder.now) c.in-Some.field-0 _ counters refl refl (c.in_ok-grants.ensures.found clean charter all (later g.S.Store c.in_ok-granted.ensures.asked before charter all holds))
