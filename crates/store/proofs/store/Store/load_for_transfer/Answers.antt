use Rattle.store.proofs.Vocabulary.{refused_by}
use Rattle.store.proofs.StoreLemmas.{read_then}
use Rattle.store.proofs.store.Store.load_for_transfer.Goals as goal

pub returns-in_err-rows-clause-schema : goal.returns-in_err-rows-clause-schema
returns-in_err-rows-clause-schema g c clean is rows holds fit =
    c.load_for_loss.ensures.schema clean (refused_by _ _ _ c.in_err-rows.was c.from_residual.ensures.1 is) rows holds fit.0

pub returns-in_err-taker-clause-read : goal.returns-in_err-taker-clause-read
returns-in_err-taker-clause-read g c = read_then g.S.Store _ _ _ c.load_for_loss.ensures.read c.load_holdings.ensures.read

pub returns-in_err-taker-clause-schema : goal.returns-in_err-taker-clause-schema
returns-in_err-taker-clause-schema g c clean is rows holds fit =
    let mid = c.load_for_loss.ensures.read.rows (c.load_holdings.ensures.read.clean clean) rows holds in
    c.load_holdings.ensures.schema clean (refused_by _ _ _ c.in_err-taker.was c.from_residual-in_err-taker.ensures.1 is) rows mid fit.1

pub returns-clause-read : goal.returns-clause-read
returns-clause-read g c = read_then g.S.Store _ _ _ c.load_for_loss.ensures.read c.load_holdings.ensures.read

pub returns-clause-found : goal.returns-clause-found
returns-clause-found g c clean rows holds =
    let before = c.load_holdings.ensures.read.clean clean in
    (c.in_ok-rows.ensures.found before rows holds, c.in_ok-taker.ensures.found clean rows (c.load_for_loss.ensures.read.rows before rows holds))
