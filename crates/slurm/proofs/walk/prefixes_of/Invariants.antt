use Rattle.slurm.proofs.Vocabulary.{◌≡◌, take, flat_map, prefixes_of}
use Rattle.slurm.proofs.walk.prefixes_of.Given as goal

abbrev pub invariant-loop-named : goal.invariant-loop-named
invariant-loop-named l = l.prefixes.items ≡ flat_map prefixes_of (take l.named-index l.files)
