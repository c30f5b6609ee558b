use Rattle.store_read.proofs.Vocabulary.{refused_by}
use Rattle.store_read.proofs.InTurn.{earlier, later, unfit_later}
use Rattle.store_read.proofs.load.load_listed.Goals as goal

pub returns-in_err-grants-clause-schema : goal.returns-in_err-grants-clause-schema
returns-in_err-grants-clause-schema g c clean is = c.load_grants.ensures.schema clean (refused_by _ _ _ c.in_err-grants.was c.from_residual.ensures.1 is)

pub returns-in_err-auths-clause-schema : goal.returns-in_err-auths-clause-schema
returns-in_err-auths-clause-schema g c clean is =
    unfit_later g.S.Store c.in_ok-grants.ensures.asked (earlier g.S.Store c.load_auths.ensures.asked clean)
    (c.load_auths.ensures.schema clean (refused_by _ _ _ c.in_err-auths.was c.from_residual-in_err-auths.ensures.1 is))

pub returns-clause-found : goal.returns-clause-found
returns-clause-found g c clean charter all holds =
    let before = earlier g.S.Store c.load_auths.ensures.asked clean in
    record {
      grants = c.in_ok-grants.ensures.found before charter all holds;
      auths = c.in_ok-auths.ensures.found clean charter all (later g.S.Store c.in_ok-grants.ensures.asked before charter all holds);
    }
