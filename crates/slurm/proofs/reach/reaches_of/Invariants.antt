use Rattle.slurm.proofs.Vocabulary.{◌≡◌, take, list_any, Vrp, filter_matches, some_reaches}
use Rattle.slurm.proofs.reach.reaches_of.Given as goal

abbrev pub invariant-loop-filter : goal.invariant-loop-filter
invariant-loop-filter l = (v : Vrp) → some_reaches l.reaches.items v ≡ list_any (λ f. filter_matches f v) (take l.filter-index l.filters)
