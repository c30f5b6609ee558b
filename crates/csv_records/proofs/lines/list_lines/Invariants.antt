use Rattle.csv_records.proofs.Vocabulary.{◌≡◌, ◌++◌, drop, flat_map, csv_line, csv_text, list_header, list_rows}
use Rattle.csv_records.proofs.lines.list_lines.Given as goal

abbrev pub invariant-loop-auth : goal.invariant-loop-auth
invariant-loop-auth l =
    l.text.items ++ flat_map csv_line (flat_map list_rows (drop l.auth-index l.auths))
    ≡ csv_text list_header (λ row. row) (flat_map list_rows l.auths)
