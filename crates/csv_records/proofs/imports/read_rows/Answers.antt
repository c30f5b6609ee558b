use Rattle.csv_records.proofs.Vocabulary.{◌++◌, ◌∷◌, [], ◌∙◌, ap, sym, append_assoc, current, records_left, import_fault_number, row_in_fields}
use Rattle.json_values.proofs.PartsLemmas.{each-append}
use Rattle.csv_records.proofs.imports.read_rows.Goals as goal

pub loop-gathered-preserved : goal.loop-gathered-preserved
loop-gathered-preserved c =
    let found = rw c.if-branch.true at c.in_ok-advance.ensures.found in
    let done = c.loop-gathered.invariant.done in
    let row = current c.advance.new.self in record {
      reading = c.in_ok-advance.ensures.reading c.if-branch.true;
      done = done ++ row ∷ [];
      left =
          c.loop-gathered.invariant.left ∙ ap (λ rest. done ++ rest) found
          ∙ sym (append_assoc done (row ∷ []) (records_left c.advance.new.self));
      read =
          rw (c.in_ok-add.ensures, c.loop-gathered.invariant.read, c.read_row.ensures, c.row.ensures)
          (sym (each-append import_fault_number row_in_fields done row));
    }
