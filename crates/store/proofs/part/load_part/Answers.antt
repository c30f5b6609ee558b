use Rattle.store.proofs.Vocabulary.{arith, refl, subst, refused_by, AreCounted, earlier, later, unfit_later}
use Rattle.store.proofs.PartFound.{no_part, some_part}
use Rattle.store.proofs.part.load_part.Goals as goal

pub returns-in_err-counted-clause-schema : goal.returns-in_err-counted-clause-schema
returns-in_err-counted-clause-schema g c clean is = c.load_grants_counted.ensures.schema clean (refused_by _ _ _ c.in_err-counted.was c.from_residual.ensures.1 is)

pub returns-in_default-clause-found : goal.returns-in_default-clause-found
returns-in_default-clause-found g c clean charter all holds =
    let o = all.of_holder c.args.holder.now in
    no_part c.args.changes.now o (subst (AreCounted o) c.in_default.is (c.in_ok-counted.ensures.found clean charter all holds))

pub returns-in_err-holdings-clause-schema : goal.returns-in_err-holdings-clause-schema
returns-in_err-holdings-clause-schema g c clean is =
    unfit_later g.S.Store c.in_ok-counted.ensures.asked (earlier g.S.Store c.load_runs.ensures.asked clean)
    (c.load_runs.ensures.schema clean (refused_by _ _ _ c.in_err-holdings.was c.from_residual-in_err-holdings.ensures.1 is))

pub returns-in_err-auths-clause-schema : goal.returns-in_err-auths-clause-schema
returns-in_err-auths-clause-schema g c clean is =
    let clean_2 = earlier g.S.Store c.load_looked_for.ensures.asked clean in
    unfit_later g.S.Store c.in_ok-counted.ensures.asked (earlier g.S.Store c.load_runs.ensures.asked clean_2) (unfit_later g.S.Store c.in_ok-holdings.ensures.asked clean_2
    (c.load_looked_for.ensures.schema clean (refused_by _ _ _ c.in_err-auths.was c.from_residual-in_err-auths.ensures.1 is)))

pub returns-in_err-left_out-clause-schema : goal.returns-in_err-left_out-clause-schema
returns-in_err-left_out-clause-schema g c clean is = absurd (c.count_others.ensures.no_schema (refused_by _ _ _ c.in_err-left_out.was c.from_residual-in_err-left_out.ensures.1 is))

pub returns-clause-found : goal.returns-clause-found
returns-clause-found g c clean charter all holds =
    let o = all.of_holder c.args.holder.now in
    let clean_3 = earlier g.S.Store c.count_others.ensures.asked clean in
    let clean_2 = earlier g.S.Store c.load_looked_for.ensures.asked clean_3 in
    let clean_1 = earlier g.S.Store c.load_runs.ensures.asked clean_2 in
    let holds_1 = later g.S.Store c.in_ok-counted.ensures.asked clean_1 charter all holds in
    let holds_2 = later g.S.Store c.in_ok-holdings.ensures.asked clean_2 charter all holds_1 in
    let holds_3 = later g.S.Store c.in_ok-auths.ensures.asked clean_3 charter all holds_2 in
    some_part c.args.changes.now o c.in-Some.counted _ _ _ _ refl refl refl refl (omega (arith, c.len.ensures, c.in_ok-auths.auths.ok.0)) (subst (AreCounted o) c.in-Some.is (c.in_ok-counted.ensures.found clean_1 charter all holds))
    (c.in_ok-holdings.ensures.found clean_2 charter all holds_1) (c.in_ok-auths.ensures.found clean_3 charter all holds_2) (c.in_ok-left_out.ensures.found clean charter all holds_3)
