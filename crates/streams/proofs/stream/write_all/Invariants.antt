use Rattle.streams.proofs.Vocabulary.{◌≡◌, ℕ, List, ◌++◌, length}
use Rattle.streams.proofs.stream.write_all.Given as goal

abbrev pub invariant-loop-rest : goal.invariant-loop-rest
invariant-loop-rest g l = (done : List ℕ)
    × (g.D.Drain.written l.drain ≡ g.D.Drain.written l.initial.drain ++ done)
    × (l.text ≡ done ++ l.rest)

abbrev pub decreases-loop-rest : goal.decreases-loop-rest
decreases-loop-rest g l = length l.rest
