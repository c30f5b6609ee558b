-- What a read of the next record does to the records that are left.
use Rattle.csv_records.proofs.Vocabulary.{◌≡◌, ℕ, List, [], ◌∷◌, Option, Some, true, false, refl, ◌∙◌, Read, next_record, State, RecordFields, records_of_rest, unread, records_left, current, IsReading}
use Rattle.std.proofs.Common.{Bor}
use Rattle.csv.specs.Reading.{default_config, reader_config, reader_state, Reached, ReadRecord, ReadsOn}
use Rattle.csv.specs.declared.reader.Reader.{Reader}
use Rattle.csv.proofs.ReadFacts.{rows-more, rows-end}
use Rattle.csv_records.specs.declared.records.CsvRecords.{CsvRecords}
use Rattle.csv_records.proofs.RecordsLeft.{records-next, records-end}

abbrev remaining : Bor (List ℕ) → Option (List ℕ)
remaining text = Some text.now

joined : (s s2 : State) (row : RecordFields) (xs rest : List ℕ) (old new : Option (List ℕ)) (r : Read)
    → old ≡ Some xs → new ≡ Some rest → next_record default_config s [] [] xs ≡ Some r → row ≡ r.0 → r.1 ≡ s2 → r.2 ≡ rest
    → records_of_rest s old ≡ row ∷ records_of_rest s2 new
joined s s2 row xs rest old new r known left next same state bytes =
    rw (known, left, same, ← state, ← bytes) (records-next default_config s xs r next)

more_left : (a b : Reader (Bor (List ℕ))) (row : RecordFields) (xs : List ℕ)
    → reader_config a ≡ default_config → unread a ≡ Some xs → ReadRecord remaining a b true row
    → ((rest : List ℕ) × (unread b ≡ Some rest))
    × (records_of_rest (reader_state a) (unread a) ≡ row ∷ records_of_rest (reader_state b) (unread b))
unfolding Reached
more_left a b row xs config known read =
    let (rest, left, reached) = rows-more remaining a b row default_config a.state xs xs [] config known (refl, refl) read in
    let taken : (r : Read) × (next_record default_config a.state [] [] xs ≡ Some r) × (row ≡ r.0) × ((r.1 ≡ b.state) × (r.2 ≡ rest)) = reached in
    let (r, next, same, (state, bytes)) = taken in
    ((rest, left), joined a.state b.state row xs rest (unread a) (unread b) r known left next same state bytes)

pub reading-next : (old new : CsvRecords) → IsReading old
    → ReadRecord remaining old.reader new.reader true (current new) → ReadsOn old.reader new.reader
    → IsReading new × (records_left old ≡ current new ∷ records_left new)
reading-next old new reading read on =
    let more = more_left old.reader new.reader (current new) reading.rest reading.config reading.known read in (
      record {
        untrimmed = on.1 ∙ reading.untrimmed;
        ready = (on.4 reading.ready).0;
        config = on.0 ∙ reading.config;
        rest = more.0.0;
        known = more.0.1;
      },
      more.1,
    )

pub reading-end : (old new : CsvRecords) → IsReading old → ReadRecord remaining old.reader new.reader false (current new) → records_left old ≡ []
reading-end old new reading read =
    let none = rows-end remaining old.reader new.reader (current new) default_config reading.rest reading.config reading.known read in
    rw reading.known (records-end default_config old.reader.state reading.rest none)
