use Rattle.store_tables.proofs.Vocabulary.{drop}
use Rattle.store_tables.proofs.Grouping.{Walked}
use Rattle.store_tables.proofs.groups.group_entries.Given as goal

abbrev pub invariant-loop-claim : goal.invariant-loop-claim
invariant-loop-claim g l = Walked g.C.HasEntries.written l.claims l.rows l.groups.items (drop l.claim-index l.claims) l.rest
