use Rattle.cli_texts.proofs.Vocabulary.{◌≡◌, ◌+◌, ◌++◌, map, length, records_left, IsReading, first_fault, payload_fault, payload_row}
use Rattle.cli_texts.proofs.files.payloads.read_rows.Given as goal

abbrev pub invariant-loop-vrps : goal.invariant-loop-vrps
invariant-loop-vrps l = record {
  reading : IsReading l.records;
  read : records_left l.fn.records ≡ map payload_row l.vrps.items ++ records_left l.records;
  faultless : first_fault payload_fault 1 (records_left l.fn.records)
      ≡ first_fault payload_fault (length l.vrps.items + 1) (records_left l.records);
}

abbrev pub decreases-loop-vrps : goal.decreases-loop-vrps
decreases-loop-vrps l = length (records_left l.records)
