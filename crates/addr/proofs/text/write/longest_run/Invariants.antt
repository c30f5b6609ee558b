use Rattle.addr.proofs.Vocabulary.{◌≡◌, ◌+◌, ◌≤◌, length, drop, zero_run, longest_zero_run}
use Rattle.addr.proofs.text.write.longest_run.Given as goal

abbrev pub invariant-loop-i : goal.invariant-loop-i
invariant-loop-i l =
    (l.run ≡ zero_run (drop l.i l.groups))
    × (l.longest.0 ≡ l.i + (longest_zero_run (drop l.i l.groups)).0)
    × (l.longest.1 ≡ (longest_zero_run (drop l.i l.groups)).1)
    × (l.i + l.run ≤ length l.groups) × (l.longest.0 + l.longest.1 ≤ length l.groups)
