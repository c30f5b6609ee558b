use Rattle.registry.proofs.Vocabulary.{All, take, ImportRowFits}
use Rattle.registry.proofs.values.rows_fit.Given as goal

abbrev pub invariant-loop-row : goal.invariant-loop-row
invariant-loop-row l = All ImportRowFits (take l.row-index l.rows)
