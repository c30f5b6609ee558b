-- The rows that the desk shows as CSV (RFC 4180, each line ended by a line feed). No field has a comma, a quotation mark
-- or a line feed in it, so that none is quoted.
use Rattle.std.specs.Prelude.{ℕ, List, [], ◌∷◌, ◌++◌, map, codes, decimal}
use Rattle.std.specs.List.{flat_map, join_with_byte}
use Rattle.addr.specs.Day.{day_text}
use Rattle.addr.specs.Digits.{asn_text}
use Rattle.addr.specs.PrefixText.{spelling}
use Rattle.addr.specs.declared.asn.Asn.{Asn}
use Rattle.addr.specs.declared.prefix.Prefix.{Prefix}
use Rattle.addr.specs.declared.vrp.Vrp.{Vrp}
use Rattle.registry.specs.declared.authorization.Auth.{Auth}
use Rattle.addr.specs.declared.roa_prefix.RoaPrefix.{RoaPrefix}
use Rattle.csv_records.specs.Fields.{RecordFields}
use Rattle.csv_records.specs.Imports.{import_header}

-- with a comma between each two
abbrev pub fields_text : RecordFields → List ℕ
fields_text fields = join_with_byte 44 fields

abbrev pub csv_line : RecordFields → List ℕ
csv_line fields = fields_text fields ++ codes "\n"

-- a header, and a row for each of these items
abbrev pub csv_text : {T : Type 0} → RecordFields → (T → RecordFields) → List T → List ℕ
csv_text header row items = csv_line header ++ flat_map (λ item. csv_line (row item)) items

abbrev pub prefix_text : Prefix → List ℕ
prefix_text p = spelling p.family p.first p.length

abbrev pub vrp_fields : Asn → Prefix → ℕ → RecordFields
vrp_fields asn prefix max = asn_text asn.0 ∷ prefix_text prefix ∷ decimal max ∷ []

-- ---- payloads

abbrev pub payload_header : RecordFields
payload_header = codes "asn" ∷ codes "prefix" ∷ codes "maxlength" ∷ []

abbrev pub payload_row : Vrp → RecordFields
payload_row v = vrp_fields v.asn v.prefix v.max

-- without their header
abbrev pub payload_rows : List Vrp → List ℕ
payload_rows vrps = flat_map (λ v. csv_line (payload_row v)) vrps

-- ---- lists of authorizations: what an import of them has, and their numbers

abbrev pub list_header : RecordFields
list_header = codes "number" ∷ import_header

-- of an authorization and one of its entries
abbrev pub entry_fields : Auth → RoaPrefix → RecordFields
entry_fields auth e =
    decimal auth.number ∷ vrp_fields auth.asn e.prefix e.max
    ++ day_text auth.from ∷ day_text auth.until ∷ []

-- a row for each entry of the authorization
abbrev pub list_rows : Auth → List RecordFields
list_rows auth = map (entry_fields auth) auth.entries
