use Rattle.store_read.proofs.Vocabulary.{state, GrantFits}
use Rattle.store_read.proofs.Loading.{grants_by_number, grants_fit, never_fit}
use Rattle.store_read.proofs.load.load_grants.Goals as goal

pub returns-clause-found : goal.returns-clause-found
returns-clause-found g c clean = grants_by_number c.args.holder.now (state g.S.Store c.args.conn.now) c.load_values.result (c.load_values.ensures.found clean) (c.load_values.ensures.rising clean)

pub returns-clause-schema : goal.returns-clause-schema
returns-clause-schema g c clean is = never_fit GrantFits (state g.S.Store c.args.conn.now) grants_fit (c.load_values.ensures.schema clean is)
