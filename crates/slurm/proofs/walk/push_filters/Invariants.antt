use Rattle.slurm.proofs.Vocabulary.{◌≡◌, ◌++◌, map, take, filter_map, filter_prefix, of_file}
use Rattle.slurm.proofs.walk.push_filters.Given as goal

abbrev pub invariant-loop-filter : goal.invariant-loop-filter
invariant-loop-filter l = l.prefixes.items ≡ l.fn.prefixes.items ++ map (of_file l.file) (filter_map filter_prefix (take l.filter-index l.filters))
