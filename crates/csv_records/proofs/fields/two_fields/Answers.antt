use Rattle.csv_records.proofs.Vocabulary.{◌∙◌, sym, fields_of}
use Rattle.csv_records.proofs.FieldLemmas.{two_of-no_first, two_of-no_second, two_of-all}
use Rattle.csv_records.proofs.fields.two_fields.Goals as goal

pub returns-in_default : goal.returns-in_default
returns-in_default c = two_of-no_first (fields_of c.args.row.now) c.in_default.ensures.value

pub returns-in_default-get : goal.returns-in_default-get
returns-in_default-get c = two_of-no_second (fields_of c.args.row.now) c.in_default-get.ensures.value

pub returns : goal.returns
returns c =
    two_of-all (fields_of c.args.row.now) c.in-Some.first.now c.in-Some-get.second.now
    (sym c.len.ensures ∙ c.if-len-ne2.false)
    c.in-Some.ensures.value c.in-Some-get.ensures.value
