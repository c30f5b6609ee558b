use Rattle.streams.proofs.Vocabulary.{◌≡◌, ℕ, false, List, ◌++◌, length, Appends, device_inner, device_has_failed}
use Rattle.streams.proofs.printed.write_whole.Given as goal

abbrev pub invariant-loop-rest : goal.invariant-loop-rest
invariant-loop-rest g l = (done : List ℕ)
    × Appends (g.W.Write.contents (device_inner l.initial.device)) (g.W.Write.contents (device_inner l.device)) done
    × (l.text ≡ done ++ l.rest)
    × (device_has_failed l.device ≡ false)

abbrev pub decreases-loop-rest : goal.decreases-loop-rest
decreases-loop-rest g l = length l.rest
