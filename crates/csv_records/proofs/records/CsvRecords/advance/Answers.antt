use Rattle.csv_records.proofs.Vocabulary.{inl, inr, cases_Bool}
use Rattle.csv_records.proofs.RecordSteps.{reading-next, reading-end}
use Rattle.csv_records.proofs.records.CsvRecords.advance.Goals as goal

pub returns-clause-reading : goal.returns-clause-reading
returns-clause-reading c = λ e.
    let read = rw e at (c.in-Ok.ensures.reads c.requires.untrimmed c.requires.ready) in
    let on = c.in-Ok.ensures.reads_on e in
    (reading-next _ _ c.requires read on).0

pub returns-clause-found : goal.returns-clause-found
returns-clause-found c =
    elim (cases_Bool c.in-Ok.found) [
      | inl some ↦
          let read = rw some at (c.in-Ok.ensures.reads c.requires.untrimmed c.requires.ready) in
          rw some ((reading-next c.args.self.now (record { reader = c.read_byte_record.new.self; row = c.read_byte_record.new.row }) c.requires read (c.in-Ok.ensures.reads_on some)).1)
      | inr none ↦
          let read = rw none at (c.in-Ok.ensures.reads c.requires.untrimmed c.requires.ready) in
          rw none (reading-end c.args.self.now (record { reader = c.read_byte_record.new.self; row = c.read_byte_record.new.row }) c.requires read)
    ]
