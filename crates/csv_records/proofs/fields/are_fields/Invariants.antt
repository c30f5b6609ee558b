use Rattle.csv_records.proofs.Vocabulary.{◌≡◌, ◌≤◌, ◌-◌, drop, length, fields_of, fields_eq, texts_of}
use Rattle.csv_records.proofs.fields.are_fields.Given as goal

abbrev pub invariant-loop-place : goal.invariant-loop-place
invariant-loop-place l = record {
  inside : l.place ≤ length l.texts;
  rest : fields_eq (fields_of l.row) (texts_of l.texts)
      ≡ fields_eq (drop l.place (fields_of l.row)) (drop l.place (texts_of l.texts));
}

abbrev pub decreases-loop-place : goal.decreases-loop-place
decreases-loop-place l = length l.texts - l.place
