use Rattle.store_read.proofs.Vocabulary.{refl, sym, ◌∙◌, refused_by}
use Rattle.store_read.proofs.Loading.{none_loaded, all_loaded}
use Rattle.store_read.proofs.InTurn.{earlier, later, unfit_later}
use Rattle.store_read.proofs.load.load_rows.Goals as goal

pub returns-in_err-granted-clause-schema : goal.returns-in_err-granted-clause-schema
returns-in_err-granted-clause-schema g c clean is = c.load_counters.ensures.schema clean (refused_by _ _ _ c.in_err-granted.was c.from_residual.ensures.1 is)

pub returns-in_default-clause-found : goal.returns-in_default-clause-found
returns-in_default-clause-found g c clean charter all holds =
    let o = all.of_holder c.args.holder.now in
    none_loaded o (sym c.in_default.is ∙ c.in_ok-granted.ensures.found clean charter all holds)

pub returns-in_err-holdings-clause-schema : goal.returns-in_err-holdings-clause-schema
returns-in_err-holdings-clause-schema g c clean is =
    unfit_later g.S.Store c.in_ok-granted.ensures.asked (earlier g.S.Store c.load_runs.ensures.asked clean)
    (c.load_runs.ensures.schema clean (refused_by _ _ _ c.in_err-holdings.was c.from_residual-in_err-holdings.ensures.1 is))

pub returns-in_err-grants-clause-schema : goal.returns-in_err-grants-clause-schema
returns-in_err-grants-clause-schema g c clean is =
    let clean_2 = earlier g.S.Store c.load_grants.ensures.asked clean in
    unfit_later g.S.Store c.in_ok-granted.ensures.asked (earlier g.S.Store c.load_runs.ensures.asked clean_2)
    (unfit_later g.S.Store c.in_ok-holdings.ensures.asked clean_2
    (c.load_grants.ensures.schema clean (refused_by _ _ _ c.in_err-grants.was c.from_residual-in_err-grants.ensures.1 is)))

pub returns-in_err-auths-clause-schema : goal.returns-in_err-auths-clause-schema
returns-in_err-auths-clause-schema g c clean is =
    let clean_3 = earlier g.S.Store c.load_auths.ensures.asked clean in
    let clean_2 = earlier g.S.Store c.load_grants.ensures.asked clean_3 in
    unfit_later g.S.Store c.in_ok-granted.ensures.asked (earlier g.S.Store c.load_runs.ensures.asked clean_2)
    (unfit_later g.S.Store c.in_ok-holdings.ensures.asked clean_2
    (unfit_later g.S.Store c.in_ok-grants.ensures.asked clean_3
    (c.load_auths.ensures.schema clean (refused_by _ _ _ c.in_err-auths.was c.from_residual-in_err-auths.ensures.1 is))))

pub returns-clause-found : goal.returns-clause-found
returns-clause-found g c clean charter all holds =
    let o = all.of_holder c.args.holder.now in
    let clean_3 = earlier g.S.Store c.load_auths.ensures.asked clean in
    let clean_2 = earlier g.S.Store c.load_grants.ensures.asked clean_3 in
    let clean_1 = earlier g.S.Store c.load_runs.ensures.asked clean_2 in
    let after_counters = later g.S.Store c.in_ok-granted.ensures.asked clean_1 charter all holds in
    let after_runs = later g.S.Store c.in_ok-holdings.ensures.asked clean_2 charter all after_counters in
    let after_grants = later g.S.Store c.in_ok-grants.ensures.asked clean_3 charter all after_runs in
    let counters = sym c.in-Some.is ∙ c.in_ok-granted.ensures.found clean_1 charter all holds in
    let runs = c.in_ok-holdings.ensures.found clean_2 charter all after_counters in
    let grants = c.in_ok-grants.ensures.found clean_3 charter all after_runs in
    let auths = c.in_ok-auths.ensures.found clean charter all after_grants in
    all_loaded o c.in-Some.field-0 _ counters refl refl c.in_ok-holdings.ensures.maximal runs grants auths
