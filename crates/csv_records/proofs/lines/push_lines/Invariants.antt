use Rattle.csv_records.proofs.Vocabulary.{◌≡◌, ◌++◌, drop, map, flat_map, csv_line, entry_fields}
use Rattle.csv_records.proofs.lines.push_lines.Given as goal

abbrev pub invariant-loop-entry : goal.invariant-loop-entry
invariant-loop-entry l =
    l.text.items ++ flat_map csv_line (map (entry_fields l.auth) (drop l.entry-index l.entries))
    ≡ l.initial.text.items ++ flat_map csv_line (map (entry_fields l.auth) l.entries)
