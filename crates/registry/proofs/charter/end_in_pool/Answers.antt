use Rattle.registry.proofs.PoolLemmas.{end-none, end-some}
use Rattle.registry.proofs.charter.end_in_pool.Goals as goal

pub returns-clause-none : goal.returns-clause-none
returns-clause-none c = end-none c.args.pool.now c.args.family c.args.number c.prefix_in_pool.result c.map.result c.prefix_in_pool.ensures c.map.ensures.cases

pub returns-clause-some : goal.returns-clause-some
returns-clause-some c = end-some c.args.pool.now c.args.family c.args.number c.prefix_in_pool.result c.map.result c.prefix_in_pool.ensures c.map.ensures.cases
