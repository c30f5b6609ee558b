-- Imports: which rows a text says, and its faults. Of all faults, wherever in the text they are, the lowest is
-- reported.
use Rattle.std.specs.Prelude.{◌≡◌, ℕ, nat_le, ◌&&◌, Bool, if◌then◌else◌, List, [], ◌∷◌, ◌++◌, length, codes, Option, Some, None, is_some, option_map, option_and_then}
use Rattle.std.specs.List.{AllZip, flat_map}
use Rattle.addr.specs.Day.{day_in}
use Rattle.addr.specs.Digits.{asn_in, number_in}
use Rattle.addr.specs.PrefixText.{spelled_prefix}
use Rattle.addr.specs.declared.asn.Asn.{Asn}
use Rattle.registry.specs.declared.authorization.ImportRow.{ImportRow}
use Rattle.json_values.specs.Faults.{fault_unless, lowest}
use Rattle.csv_records.specs.CsvRecords.{csv_records}
use Rattle.csv_records.specs.Fields.{RecordFields, fields_eq}
use Rattle.csv_records.specs.declared.imports.ImportFault.{ImportFault}
use Rattle.csv_records.specs.declared.imports.ImportFault.TheVariants.{Form, Prefix, Asn as AsnFault, Max, Day, Count}
use Rattle.csv_records.specs.declared.imports.TheConstants.{MOST_ROWS}

abbrev pub import_header : RecordFields
import_header = codes "asn" ∷ codes "prefix" ∷ codes "maxlength" ∷ codes "from" ∷ codes "until" ∷ []

-- ---- fields

-- the AS number that a text names, as AS and its digits
abbrev pub named_asn : List ℕ → Option Asn
named_asn text = option_map (λ n. record { 0 = n }) (asn_in text)

-- a whole number from 0 to 255
abbrev pub max_in : List ℕ → Option ℕ
max_in text = option_and_then (λ n. if nat_le n 255 then Some n else None) (number_in text)

-- ---- rows

-- the fields of a record are those of this row
abbrev pub SaysRow : RecordFields → ImportRow → Type 0
SaysRow (asn ∷ prefix ∷ max ∷ from ∷ until ∷ []) row =
    (named_asn asn ≡ Some row.asn) × (spelled_prefix prefix ≡ Some row.prefix) × (max_in max ≡ Some row.max)
    × (day_in from ≡ Some row.from) × (day_in until ≡ Some row.until)
SaysRow _ row = ⊥

-- the text is the header and a record for each of these rows
abbrev pub IsImportText : List ℕ → List ImportRow → Type 0
IsImportText text rows =
    (records : List RecordFields) × (csv_records text ≡ import_header ∷ records) × AllZip SaysRow records rows

-- ---- faults

abbrev pub import_fault_number : ImportFault → ℕ
import_fault_number Form = 2
import_fault_number Prefix = 5
import_fault_number AsnFault = 6
import_fault_number Max = 7
import_fault_number Day = 8
import_fault_number Count = 12

abbrev pub row_faults : RecordFields → List ImportFault
row_faults (asn ∷ prefix ∷ max ∷ from ∷ until ∷ []) =
    fault_unless (is_some (named_asn asn)) AsnFault
    ++ fault_unless (is_some (spelled_prefix prefix)) Prefix
    ++ fault_unless (is_some (max_in max)) Max
    ++ fault_unless (is_some (day_in from)) Day
    ++ fault_unless (is_some (day_in until)) Day
row_faults _ = Form ∷ []

-- one to ten thousand rows
abbrev pub is_row_count : ℕ → Bool
is_row_count n = nat_le 1 n && nat_le n MOST_ROWS

-- of the header and the rows
abbrev pub import_faults : List RecordFields → List ImportFault
import_faults [] = Form ∷ []
import_faults (first ∷ rows) =
    fault_unless (fields_eq first import_header) Form
    ++ flat_map row_faults rows
    ++ fault_unless (is_row_count (length rows)) Count

-- why a text is no import
abbrev pub import_fault : List ℕ → Option ImportFault
import_fault text = lowest import_fault_number (import_faults (csv_records text))
