use Rattle.store.proofs.Vocabulary.{◌≡◌, ◌++◌, map, take, EntryRow}
use Rattle.store.proofs.part.push_numbers.Given as goal

abbrev pub invariant-loop-row : goal.invariant-loop-row
invariant-loop-row l = l.numbers.items ≡ l.fn.numbers.items ++ map (λ (r : EntryRow). r.number) (take l.row-index l.rows)
