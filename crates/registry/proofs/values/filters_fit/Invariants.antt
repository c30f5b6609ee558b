use Rattle.registry.proofs.Vocabulary.{All, take, FilterFits}
use Rattle.registry.proofs.values.filters_fit.Given as goal

abbrev pub invariant-loop-filter : goal.invariant-loop-filter
invariant-loop-filter l = All FilterFits (take l.filter-index l.filters)
