use Rattle.roa.proofs.Vocabulary.{◌≡◌, ◌-◌, ◌≤◌, length, entries_in_octets}
use Rattle.roa.proofs.Loop.{with_front}
use Rattle.roa.proofs.reading.read_entries.Given as goal

abbrev pub invariant-loop-rest : goal.invariant-loop-rest
invariant-loop-rest l = record {
  so_far : with_front l.entries.items (entries_in_octets (64 - length l.entries.items) l.family l.rest) ≡ with_front l.fn.entries.items (entries_in_octets (64 - length l.fn.entries.items) l.family l.octets);
  few : length l.entries.items ≤ 64;
}

abbrev pub decreases-loop-rest : goal.decreases-loop-rest
decreases-loop-rest l = 64 - length l.entries.items
