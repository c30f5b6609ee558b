use Rattle.store_schema.proofs.Vocabulary.{map, take, HasCleanDisk, operator, operator_row, PutsRows, state_in, StaysInside}
use Rattle.store_schema.proofs.charter.put_operators.Given as goal

abbrev pub invariant-loop-name : goal.invariant-loop-name
invariant-loop-name g l =
    StaysInside g.S.Store l.fn.tx l.tx
    × (HasCleanDisk (state_in g.S.Store l.tx) → PutsRows operator.tree (map operator_row (take l.name-index l.names)) (state_in g.S.Store l.fn.tx) (state_in g.S.Store l.tx))
