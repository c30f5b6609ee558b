use Rattle.cli_texts.proofs.Vocabulary.{◌≡◌, ◌+◌, ◌≤◌, ◌++◌, List, map, length, Route, state_lines, lines_text, rows_kept, Stands, records_left, IsReading, first_fault, route_fault, route_row}
use Rattle.cli_texts.proofs.check.push_rows.Given as goal

abbrev pub invariant-loop-records : goal.invariant-loop-records
invariant-loop-records l = record {
  reading : IsReading l.records;
  stands : Stands l.lines;
  read : (routes : List Route)
      × (records_left l.fn.records ≡ map route_row routes ++ records_left l.records)
      × (lines_text l.lines ≡ state_lines l.index routes);
  faultless : first_fault route_fault 1 (records_left l.fn.records) ≡ first_fault route_fault l.row (records_left l.records);
  counted : l.row ≤ rows_kept l.lines + 1;
}

abbrev pub decreases-loop-records : goal.decreases-loop-records
decreases-loop-records l = length (records_left l.records)
