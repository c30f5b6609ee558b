use Rattle.cli_texts.proofs.Vocabulary.{sym, csv_records, records_left, texts_of}
use Rattle.cli_texts.proofs.RowLemmas.{header-found, header-missing}
use Rattle.cli_texts.proofs.files.header.after_header.Goals as goal

pub returns-in-Some-clause-ok : goal.returns-in-Some-clause-ok
returns-in-Some-clause-ok c =
    (header-found (texts_of c.args.header.now) (csv_records c.args.text.now) (records_left c.in-Some.records)
    (sym (rw c.in-Some.is at c.in_ok-records.ensures.after))).0

pub returns-in-Some-clause-faultless : goal.returns-in-Some-clause-faultless
returns-in-Some-clause-faultless c =
    (header-found (texts_of c.args.header.now) (csv_records c.args.text.now) (records_left c.in-Some.records)
    (sym (rw c.in-Some.is at c.in_ok-records.ensures.after))).1

pub returns-in-None-clause-err : goal.returns-in-None-clause-err
returns-in-None-clause-err c =
    header-missing (texts_of c.args.header.now) (csv_records c.args.text.now)
    (sym (rw c.in-None.is at c.in_ok-records.ensures.after))
