use Rattle.store_read.proofs.Vocabulary.{sym, ◌∙◌, refused_by}
use Rattle.store_read.proofs.InTurn.{earlier, later, unfit_later}
use Rattle.store_read.proofs.load.load_holdings.Goals as goal

pub returns-in_err-is_registered-clause-schema : goal.returns-in_err-is_registered-clause-schema
returns-in_err-is_registered-clause-schema g c clean is = c.is_registered.ensures.schema clean (refused_by _ _ _ c.in_err-is_registered.was c.from_residual.ensures.1 is)

pub returns-then-not-branch-clause-found : goal.returns-then-not-branch-clause-found
returns-then-not-branch-clause-found g c clean charter all holds = record {
  registered = sym c.if-not-branch.true ∙ c.in_ok-is_registered.ensures.found clean charter all holds;
  runs = tt;
}

pub returns-in_err-holdings-clause-schema : goal.returns-in_err-holdings-clause-schema
returns-in_err-holdings-clause-schema g c clean is =
    unfit_later g.S.Store c.in_ok-is_registered.ensures.asked (earlier g.S.Store c.load_runs.ensures.asked clean)
    (c.load_runs.ensures.schema clean (refused_by _ _ _ c.in_err-holdings.was c.from_residual-in_err-holdings.ensures.1 is))

pub returns-clause-found : goal.returns-clause-found
returns-clause-found g c clean charter all holds =
    let before = earlier g.S.Store c.load_runs.ensures.asked clean in
    record {
      registered = sym c.if-not-branch.false ∙ c.in_ok-is_registered.ensures.found before charter all holds;
      runs = c.in_ok-holdings.ensures.found clean charter all (later g.S.Store c.in_ok-is_registered.ensures.asked before charter all holds);
    }
