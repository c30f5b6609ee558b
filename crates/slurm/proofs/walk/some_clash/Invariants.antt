use Rattle.slurm.proofs.Vocabulary.{◌≡◌, drop, some_clash, walk}
use Rattle.slurm.proofs.walk.some_clash.Given as goal

abbrev pub invariant-loop-next : goal.invariant-loop-next
invariant-loop-next l = walk l.outer (drop l.next-index l.others) ≡ some_clash l.prefixes
