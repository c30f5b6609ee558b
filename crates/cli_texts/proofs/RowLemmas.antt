-- Rows of CSV files.
use Rattle.cli_texts.proofs.Vocabulary.{◌≡◌, inl, inr, ℕ, List, [], ◌∷◌, Option, Some, None, refl, cases_Bool, Spells, Prefix, loose-Spells, faultless-Spells, RecordFields, fields_eq, rows_after, header_fault, length_and_width, decimal_between, payload_texts_fault, origin_fault, route_texts_fault, RowFault}
use Rattle.addr.specs.Family.{width}
use Rattle.addr.specs.Digits.{asn_in}
use Rattle.csv_records.proofs.FieldLemmas.{header-there}
use Rattle.cli_texts.specs.declared.fault.FileFault.TheVariants as file
use Rattle.cli_texts.specs.declared.fault.RowFault.TheVariants as row

-- ---- headers

pub header-found : (header : RecordFields) (all rest : List RecordFields) → rows_after header all ≡ Some rest
    → (all ≡ header ∷ rest) × (header_fault header all ≡ None)
header-found header [] rest is = cc
header-found header (first ∷ rows) rest is = elim (cases_Bool (fields_eq first header)) [
  | inl same ↦ (header-there header (first ∷ rows) rest is, rw same refl)
  | inr other ↦ let h = rw other at is in cc
]

pub header-missing : (header : RecordFields) (all : List RecordFields) → rows_after header all ≡ None → header_fault header all ≡ Some file.Header
header-missing header [] none = refl
header-missing header (first ∷ rows) none = elim (cases_Bool (fields_eq first header)) [
  | inl same ↦ let h = rw same at none in cc
  | inr other ↦ rw other refl
]

-- ---- payload rows

pub length_and_width-Spells : (p : Prefix) (text : List ℕ) → Spells p text → length_and_width text ≡ Some (p.length, width p.family)
length_and_width-Spells p text spelled = rw (loose-Spells p text spelled) refl

pub faultless_payload : (asn prefix max : List ℕ) (n m : ℕ) (p : Prefix) → Some n ≡ asn_in asn → Spells p prefix → Some m ≡ decimal_between p.length (width p.family) max
    → payload_texts_fault asn prefix max ≡ None
faultless_payload asn prefix max n m p a s l =
    rw (← a, faultless-Spells p prefix s, length_and_width-Spells p prefix s, ← l) refl

pub payload_length_fault : (asn prefix max : List ℕ) (n : ℕ) (p : Prefix) → Some n ≡ asn_in asn → Spells p prefix → None ≡ decimal_between p.length (width p.family) max
    → payload_texts_fault asn prefix max ≡ Some row.Length
payload_length_fault asn prefix max n p a s l =
    rw (← a, faultless-Spells p prefix s, length_and_width-Spells p prefix s, ← l) refl

-- ---- route rows

pub route_texts_fault-Spells : (prefix origin : List ℕ) (p : Prefix) (fault : Option RowFault) → Spells p prefix → origin_fault origin ≡ fault
    → route_texts_fault prefix origin ≡ fault
route_texts_fault-Spells prefix origin p fault s o = rw (faultless-Spells p prefix s, o) refl
