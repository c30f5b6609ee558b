use Rattle.csv_records.proofs.Vocabulary.{sym, fields_of, field-get}
use Rattle.csv_records.proofs.FieldLemmas.{field_in-none}
use Rattle.csv_records.proofs.fields.field.Goals as goal

pub returns-in-Some : goal.returns-in-Some
returns-in-Some c = sym (field-get (fields_of c.args.row.now) c.args.place c.in-Some.field.now (sym c.in-Some.ensures.value))

pub returns-in-None : goal.returns-in-None
returns-in-None c = field_in-none (fields_of c.args.row.now) c.args.place c.in-None.ensures.value
