use Rattle.payload.proofs.Vocabulary.{◌≡◌, ◌+◌, ◌≤◌, drop, common, bits_from}
use Rattle.payload.proofs.trie.skipped.Skipped.shared.Given as goal

-- the bits before this one are in common
abbrev pub invariant-loop-i : goal.invariant-loop-i
invariant-loop-i l = record {
  common : common l.self (bits_from l.prefix l.at) ≡ l.i + common (drop l.i l.self) (bits_from l.prefix (l.at + l.i));
  within : l.at + l.i ≤ l.prefix.length;
}
