use Rattle.csv_records.proofs.Vocabulary.{refl, sym, ◌∙◌, fields_of}
use Rattle.csv_records.proofs.ImportLemmas.{row_in_fields-five}
use Rattle.csv_records.proofs.imports.read_row.Goals as goal

pub returns : goal.returns
returns c =
    rw (
      row_in_fields-five (fields_of c.args.row.now) (sym c.len.ensures ∙ c.if-len-ne5.false),
      c.row_of.ensures,
      c.asn_in.ensures,
      c.prefix_in.ensures,
      c.max_in.ensures,
      c.read.ensures,
      c.read-2.ensures,
      c.field.ensures,
      c.field-2.ensures,
      c.field-3.ensures,
      c.field-4.ensures,
      c.field-5.ensures,
    ) refl
