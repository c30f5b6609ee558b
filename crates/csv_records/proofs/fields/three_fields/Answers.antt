use Rattle.csv_records.proofs.Vocabulary.{◌∙◌, sym, fields_of}
use Rattle.csv_records.proofs.FieldLemmas.{three_of-no_first, three_of-no_second, three_of-no_third, three_of-all}
use Rattle.csv_records.proofs.fields.three_fields.Goals as goal

pub returns-in_default : goal.returns-in_default
returns-in_default c = three_of-no_first (fields_of c.args.row.now) c.in_default.ensures.value

pub returns-in_default-get : goal.returns-in_default-get
returns-in_default-get c = three_of-no_second (fields_of c.args.row.now) c.in_default-get.ensures.value

pub returns-in_default-get-2 : goal.returns-in_default-get-2
returns-in_default-get-2 c = three_of-no_third (fields_of c.args.row.now) c.in_default-get-2.ensures.value

pub returns : goal.returns
returns c =
    three_of-all (fields_of c.args.row.now) c.in-Some.first.now c.in-Some-get.second.now c.in-Some-get-2.third.now
    (sym c.len.ensures ∙ c.if-len-ne3.false)
    c.in-Some.ensures.value c.in-Some-get.ensures.value c.in-Some-get-2.ensures.value
