use Rattle.slurm.proofs.Vocabulary.{◌≡◌, ◌++◌, map, take, of_file}
use Rattle.slurm.proofs.walk.push_assertions.Given as goal

abbrev pub invariant-loop-vrp : goal.invariant-loop-vrp
invariant-loop-vrp l = l.prefixes.items ≡ l.fn.prefixes.items ++ map (of_file l.file) (map (λ v. v.prefix) (take l.vrp-index l.assertions))
