-- A step of the code, not a definition: how it reads an import, from all of its fields at once, so that it finds the
-- lowest fault.
use Rattle.std.specs.Prelude.{ℕ, List, [], ◌∷◌, length, Option, Some, None, Result, Ok, Err, if◌then◌else◌}
use Rattle.std.specs.Option.{ok_or}
use Rattle.addr.specs.Day.{day_in}
use Rattle.addr.specs.PrefixText.{spelled_prefix}
use Rattle.addr.specs.declared.asn.Asn.{Asn}
use Rattle.addr.specs.declared.prefix.Prefix.{Prefix}
use Rattle.registry.specs.declared.authorization.ImportRow.{ImportRow}
use Rattle.json_values.specs.Parts.{and_then, both, each, mapped}
use Rattle.csv_records.specs.CsvRecords.{csv_records}
use Rattle.csv_records.specs.Fields.{RecordFields, rows_after}
use Rattle.csv_records.specs.Imports.{import_fault_number, import_header, is_row_count, max_in, named_asn}
use Rattle.csv_records.specs.declared.imports.ImportFault.{ImportFault}
use Rattle.csv_records.specs.declared.imports.ImportFault.TheVariants.{Form, Prefix as PrefixFault, Asn as AsnFault, Max, Day, Count}

abbrev pub row_of_parts : (((Asn × Prefix) × ℕ) × ℕ) × ℕ → ImportRow
row_of_parts p = record { asn = p.0.0.0.0; prefix = p.0.0.0.1; max = p.0.0.1; from = p.0.1; until = p.1 }

abbrev pub row_or_fault : Option Asn → Option Prefix → Option ℕ → Option ℕ → Option ℕ → Result ImportRow ImportFault
row_or_fault asn prefix max from until =
    mapped row_of_parts
    (both import_fault_number
    (both import_fault_number
    (both import_fault_number
    (both import_fault_number (ok_or asn AsnFault) (ok_or prefix PrefixFault))
    (ok_or max Max)) (ok_or from Day)) (ok_or until Day))

abbrev pub row_in_fields : RecordFields → Result ImportRow ImportFault
row_in_fields (asn ∷ prefix ∷ max ∷ from ∷ until ∷ []) =
    row_or_fault (named_asn asn) (spelled_prefix prefix) (max_in max) (day_in from) (day_in until)
row_in_fields _ = Err Form

abbrev pub counted : List ImportRow → Result (List ImportRow) ImportFault
counted rows = if is_row_count (length rows) then Ok rows else Err Count

abbrev pub rows_in_records : Option (List RecordFields) → Result (List ImportRow) ImportFault
rows_in_records None = Err Form
rows_in_records (Some rows) = and_then counted (each import_fault_number row_in_fields rows)

-- the rows of a text, or its lowest fault
abbrev pub import_in : List ℕ → Result (List ImportRow) ImportFault
import_in text = rows_in_records (rows_after import_header (csv_records text))
