-- The rows of CSV files: what they say, and their faults. A file is its header and its rows; of its
-- faults the first row's counts, and of a row's the leftmost.
use Rattle.std.specs.Prelude.{ℕ, ◌+◌, ◌≡◌, ◌&&◌, if◌then◌else◌, nat_le, List, [], ◌∷◌, drop, Option, Some, None, codes}
use Rattle.std.specs.Option.{option_and_then, option_map}
use Rattle.std.specs.Str.{bytes_eq}
use Rattle.addr.specs.Digits.{asn_in, asn_text, number_in}
use Rattle.addr.specs.Family.{width}
use Rattle.addr.specs.PrefixText.{loose, prefix_text_fault}
use Rattle.addr.specs.declared.route.Origin.{Origin}
use Rattle.addr.specs.declared.route.Origin.TheVariants.{As, None as NoOrigin}
use Rattle.addr.specs.declared.route.Route.{Route}
use Rattle.csv_records.specs.Fields.{RecordFields, fields_eq, three_of, two_of}
use Rattle.csv_records.specs.Lines.{prefix_text}
use Rattle.cli_texts.specs.declared.fault.FileFault.{FileFault}
use Rattle.cli_texts.specs.declared.fault.FileFault.TheVariants as file
use Rattle.cli_texts.specs.declared.fault.RowFault.{RowFault}
use Rattle.cli_texts.specs.declared.fault.RowFault.TheVariants as row

-- ---- faults of a file

-- the fault of the part to the left, or else that of the part to the right
abbrev pub or_else : {F : Type 0} → Option F → Option F → Option F
or_else (Some fault) other = Some fault
or_else None other = other

-- the first record is not the header
abbrev pub header_fault : RecordFields → List RecordFields → Option FileFault
header_fault header [] = Some file.Header
header_fault header (first ∷ rows) = if fields_eq first header then None else Some file.Header

abbrev pub at_row : ℕ → Option RowFault → Option FileFault → Option FileFault
at_row k (Some fault) later = Some (file.Row k fault)
at_row k None later = later

-- the first row that has a fault; the rows are counted from k
abbrev pub first_fault : (RecordFields → Option RowFault) → ℕ → List RecordFields → Option FileFault
first_fault fault_of k [] = None
first_fault fault_of k (row ∷ rows) = at_row k (fault_of row) (first_fault fault_of (k + 1) rows)

-- the first fault of a file with this header
abbrev pub file_fault : RecordFields → (RecordFields → Option RowFault) → List RecordFields → Option FileFault
file_fault header fault_of records = or_else (header_fault header records) (first_fault fault_of 1 (drop 1 records))

-- the fault is that of the file, or an allocation failed
abbrev pub IsReported : FileFault → Option FileFault → Type 0
IsReported file.Memory first = Unit
IsReported file.Header first = first ≡ Some file.Header
IsReported (file.Row k fault) first = first ≡ Some (file.Row k fault)

-- ---- payload rows: AS, prefix and maxLength

abbrev pub fault_if_none : {T : Type 0} → Option T → RowFault → Option RowFault
fault_if_none (Some good) fault = None
fault_if_none None fault = Some fault

abbrev pub prefix_fault : List ℕ → Option RowFault
prefix_fault text = option_map row.Prefix (prefix_text_fault text)

-- the number from low to high that a text writes
abbrev pub decimal_between : ℕ → ℕ → List ℕ → Option ℕ
decimal_between low high text =
    option_and_then (λ n. if nat_le low n && nat_le n high then Some n else None) (number_in text)

-- the length of the prefix that a text writes, and the width of its family
abbrev pub length_and_width : List ℕ → Option (ℕ × ℕ)
length_and_width text = option_map (λ parts. (parts.length, width parts.family)) (loose text)

-- the maxLength of a prefix: from its length to the width of its family
abbrev pub length_fault : Option (ℕ × ℕ) → List ℕ → Option RowFault
length_fault None max = None
length_fault (Some bounds) max = fault_if_none (decimal_between bounds.0 bounds.1 max) row.Length

abbrev pub payload_texts_fault : List ℕ → List ℕ → List ℕ → Option RowFault
payload_texts_fault asn prefix max =
    or_else (fault_if_none (asn_in asn) row.Asn) (or_else (prefix_fault prefix) (length_fault (length_and_width prefix) max))

abbrev pub fault_of_three : Option (List ℕ × (List ℕ × List ℕ)) → Option RowFault
fault_of_three None = Some row.Fields
fault_of_three (Some texts) = payload_texts_fault texts.0 texts.1.0 texts.1.1

abbrev pub payload_fault : RecordFields → Option RowFault
payload_fault fields = fault_of_three (three_of fields)

-- ---- route rows: prefix and origin

abbrev pub no_origin : List ℕ
no_origin = codes "NONE"

abbrev pub origin_text : Origin → List ℕ
origin_text (As asn) = asn_text asn.0
origin_text NoOrigin = no_origin

abbrev pub route_header : RecordFields
route_header = codes "prefix" ∷ codes "origin" ∷ []

abbrev pub route_row : Route → RecordFields
route_row r = prefix_text r.prefix ∷ origin_text r.origin ∷ []

-- an AS number or `NONE`
abbrev pub origin_fault : List ℕ → Option RowFault
origin_fault text = if bytes_eq text no_origin then None else fault_if_none (asn_in text) row.Origin

abbrev pub route_texts_fault : List ℕ → List ℕ → Option RowFault
route_texts_fault prefix origin = or_else (prefix_fault prefix) (origin_fault origin)

abbrev pub fault_of_two : Option (List ℕ × List ℕ) → Option RowFault
fault_of_two None = Some row.Fields
fault_of_two (Some texts) = route_texts_fault texts.0 texts.1

abbrev pub route_fault : RecordFields → Option RowFault
route_fault fields = fault_of_two (two_of fields)
