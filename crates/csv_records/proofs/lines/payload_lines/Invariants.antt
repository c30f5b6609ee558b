use Rattle.csv_records.proofs.Vocabulary.{◌≡◌, ◌++◌, drop, flat_map, csv_line, csv_text, payload_header, payload_row}
use Rattle.csv_records.proofs.lines.payload_lines.Given as goal

abbrev pub invariant-loop-vrp : goal.invariant-loop-vrp
invariant-loop-vrp l =
    l.text.items ++ flat_map (λ v. csv_line (payload_row v)) (drop l.vrp-index l.vrps)
    ≡ csv_text payload_header payload_row l.vrps
