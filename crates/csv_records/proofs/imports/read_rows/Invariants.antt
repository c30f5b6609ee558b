use Rattle.csv_records.proofs.Vocabulary.{◌≡◌, ◌++◌, List, length, each, records_left, IsReading, RecordFields, import_fault_number, row_in_fields}
use Rattle.json_values.specs.Gathering.{so_far}
use Rattle.csv_records.proofs.imports.read_rows.Given as goal

abbrev pub invariant-loop-gathered : goal.invariant-loop-gathered
invariant-loop-gathered l = record {
  reading : IsReading l.records;
  done : List RecordFields;
  left : records_left l.fn.records ≡ done ++ records_left l.records;
  read : so_far l.gathered ≡ each import_fault_number row_in_fields done;
}

abbrev pub decreases-loop-gathered : goal.decreases-loop-gathered
decreases-loop-gathered l = length (records_left l.records)
