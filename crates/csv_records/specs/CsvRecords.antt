-- The records of a CSV text (RFC 4180), as the crate `csv` reads them with its defaults: empty lines are none, a
-- byte order mark at the start is no part of the first, and quotes round a field are no part of it. A record may
-- have any number of fields.
use Rattle.std.specs.Prelude.{ℕ, ◌+◌, ◌≡◌, Bool, true, false, List, [], ◌∷◌, length, Option, Some, None}
use Rattle.std.specs.Borrow.{Bor}
use Rattle.csv.specs.Reading.{Ready, default_config, reader_config, reader_state, reader_trim, records, records_from, source_of, strip_bom}
use Rattle.csv.specs.Records.{fields_of}
use Rattle.csv.specs.declared.parser.State.{State}
use Rattle.csv.specs.declared.reader.Reader.{Reader}
use Rattle.csv.specs.declared.reader.Trim.TheVariants as trim
use Rattle.csv_records.specs.Fields.{RecordFields}
use Rattle.csv_records.specs.declared.records.CsvRecords.{CsvRecords}

abbrev pub csv_records : List ℕ → List RecordFields
csv_records text = records default_config (strip_bom text)

-- the records of the bytes that a reader has left
abbrev pub records_of_rest : State → Option (List ℕ) → List RecordFields
records_of_rest state None = []
records_of_rest state (Some rest) = records_from default_config (length rest + 1) state rest

abbrev pub unread : Reader (Bor (List ℕ)) → Option (List ℕ)
unread reader = source_of (λ (text : Bor (List ℕ)). Some text.now) reader

-- the records that come after the one at hand
abbrev pub records_left : CsvRecords → List RecordFields
records_left r = records_of_rest (reader_state r.reader) (unread r.reader)

-- the record at hand
abbrev pub current : CsvRecords → RecordFields
current r = fields_of r.row

-- each read takes a whole record, as it is in the text
pub record IsReading (r : CsvRecords) : Type 0 where
  pub untrimmed : reader_trim r.reader ≡ trim.None
  pub ready : Ready r.reader
  pub config : reader_config r.reader ≡ default_config
  pub rest : List ℕ
  pub known : unread r.reader ≡ Some rest

-- a read of the next record found one, or found that there is none
abbrev pub Takes : Bool → RecordFields → List RecordFields → List RecordFields → Type 0
Takes true row old new = old ≡ row ∷ new
Takes false row old new = old ≡ []
