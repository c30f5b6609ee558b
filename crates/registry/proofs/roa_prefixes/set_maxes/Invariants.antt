use Rattle.registry.proofs.Vocabulary.{◌≡◌, take, with_maxes}
use Rattle.registry.proofs.roa_prefixes.set_maxes.Given as goal

abbrev pub invariant-loop-index : goal.invariant-loop-index
invariant-loop-index l = l.entries ≡ with_maxes (take l.index l.maxes) l.fn.entries
