use Rattle.csv_records.proofs.Vocabulary.{sym, ◌∙◌, csv_records, current, records_left, texts_of}
use Rattle.csv_records.proofs.FieldLemmas.{header-same, header-other}
use Rattle.csv_records.proofs.records.CsvRecords.after_header.Goals as goal

pub returns-then-not-are_fields-clause-after : goal.returns-then-not-are_fields-clause-after
returns-then-not-are_fields-clause-after c =
    sym (header-other (texts_of c.args.header.now) (current c.advance.new.self) (csv_records c.args.text.now) (records_left c.advance.new.self)
    (sym c.new-records.ensures.all ∙ (rw c.if-not-branch.false at c.in_ok-advance.ensures.found))
    (rw c.row.ensures at c.if-not-are_fields.ensures))

pub returns-clause-after : goal.returns-clause-after
returns-clause-after c =
    sym (header-same (texts_of c.args.header.now) (current c.advance.new.self) (csv_records c.args.text.now) (records_left c.advance.new.self)
    (sym c.new-records.ensures.all ∙ (rw c.if-not-branch.false at c.in_ok-advance.ensures.found))
    (rw c.row.ensures at c.if-not-are_fields.ensures))
