use Rattle.store.proofs.Vocabulary.{refused_by}
use Rattle.store.proofs.StoreLemmas.{read_then}
use Rattle.store.proofs.store.Store.load_two.Goals as goal

pub returns-in_err-one-clause-schema : goal.returns-in_err-one-clause-schema
returns-in_err-one-clause-schema g c clean is rows holds fit =
    c.load_holder.ensures.schema clean (refused_by _ _ _ c.in_err-one.was c.from_residual.ensures.1 is) rows holds fit.0

pub returns-in_err-other-clause-read : goal.returns-in_err-other-clause-read
returns-in_err-other-clause-read g c = read_then g.S.Store _ _ _ c.load_holder.ensures.read c.load_holder-2.ensures.read

pub returns-in_err-other-clause-schema : goal.returns-in_err-other-clause-schema
returns-in_err-other-clause-schema g c clean is rows holds fit =
    let mid = c.load_holder.ensures.read.rows (c.load_holder-2.ensures.read.clean clean) rows holds in
    c.load_holder-2.ensures.schema clean (refused_by _ _ _ c.in_err-other.was c.from_residual-in_err-other.ensures.1 is) rows mid fit.1

pub returns-clause-read : goal.returns-clause-read
returns-clause-read g c = read_then g.S.Store _ _ _ c.load_holder.ensures.read c.load_holder-2.ensures.read

pub returns-clause-found : goal.returns-clause-found
returns-clause-found g c clean rows holds =
    let before = c.load_holder-2.ensures.read.clean clean in
    (c.in_ok-one.ensures.found before rows holds, c.in_ok-other.ensures.found clean rows (c.load_holder.ensures.read.rows before rows holds))
