use Rattle.store_tables.proofs.Vocabulary.{◌≡◌, ◌++◌, drop, first_entries}
use Rattle.store_tables.proofs.groups.first_entries.Given as goal

abbrev pub invariant-loop-row : goal.invariant-loop-row
invariant-loop-row g l = first_entries (g.C.HasEntries.entry_if l.claim) l.rows ≡ l.entries.items ++ first_entries (g.C.HasEntries.entry_if l.claim) (drop l.row-index l.rows)
