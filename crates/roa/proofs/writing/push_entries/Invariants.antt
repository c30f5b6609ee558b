use Rattle.roa.proofs.Vocabulary.{◌≡◌, ◌++◌, take, flat_map, of_family, entry_octets}
use Rattle.roa.proofs.writing.push_entries.Given as goal

abbrev pub invariant-loop-entry : goal.invariant-loop-entry
invariant-loop-entry l = l.out.items ≡ l.fn.out.items ++ flat_map entry_octets (of_family l.family (take l.entry-index l.entries))
