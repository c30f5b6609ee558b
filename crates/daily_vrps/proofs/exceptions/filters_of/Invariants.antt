use Rattle.daily_vrps.proofs.Vocabulary.{◌≡◌, ◌++◌, drop, flat_map, Exceptions}
use Rattle.daily_vrps.proofs.exceptions.filters_of.Given as goal

abbrev pub invariant-loop-file : goal.invariant-loop-file
invariant-loop-file l =
    l.filters.items ++ flat_map (λ (f : Exceptions). f.filters) (drop l.file-index l.files)
    ≡ flat_map (λ (f : Exceptions). f.filters) l.files
