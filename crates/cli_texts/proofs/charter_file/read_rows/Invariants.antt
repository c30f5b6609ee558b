use Rattle.cli_texts.proofs.Vocabulary.{◌≡◌, ◌++◌, List, [], map, length, charter_row, first_charter_fault, HoldsRows, records_left, IsReading, CharterRow}
use Rattle.cli_texts.proofs.charter_file.read_rows.Given as goal

abbrev pub invariant-loop-rows : goal.invariant-loop-rows
invariant-loop-rows l = record {
  reading : IsReading l.records;
  read : (rows : List CharterRow)
      × (records_left l.fn.records ≡ map charter_row rows ++ records_left l.records)
      × HoldsRows l.rows rows
      × (first_charter_fault [] (records_left l.fn.records) ≡ first_charter_fault (map charter_row rows) (records_left l.records));
}

abbrev pub decreases-loop-rows : goal.decreases-loop-rows
decreases-loop-rows l = length (records_left l.records)
