use Rattle.store_schema.proofs.Vocabulary.{map, take, HasCleanDisk, pool, prefix_cells, PutsRows, state_in, StaysInside}
use Rattle.store_schema.proofs.charter.put_pool.Given as goal

abbrev pub invariant-loop-prefix : goal.invariant-loop-prefix
invariant-loop-prefix g l =
    StaysInside g.S.Store l.fn.tx l.tx
    × (HasCleanDisk (state_in g.S.Store l.tx) → PutsRows pool.tree (map prefix_cells (take l.prefix-index l.prefixes)) (state_in g.S.Store l.fn.tx) (state_in g.S.Store l.tx))
