-- What the code reads of an import: the rows that the text says, and its lowest fault.
use Rattle.csv_records.proofs.Vocabulary.{◌≡◌, ℕ, suc, inl, inr, List, [], ◌∷◌, ◌++◌, length, Bool, true, false, if◌then◌else◌, Option, Some, None, is_some, Result, Ok, Err, refl, sym, subst, ap, ◌∙◌, cases_Bool, none-some, same_Some, AllZip, flat_map, IfOk, day_in, and_then, each, mapped, csv_records, RecordFields, field_in, fields_eq, rows_after, import_fault, import_fault_number, import_faults, import_header, is_row_count, IsImportText, max_in, named_asn, row_faults, SaysRow, counted, import_in, row_of_parts, row_in_fields, row_or_fault, rows_in_records}
use Rattle.std.specs.Global.{Vec}
use Rattle.std.specs.Result.{result_err}
use Rattle.addr.specs.PrefixText.{spelled_prefix}
use Rattle.addr.specs.declared.asn.Asn.{Asn as AsnNumber}
use Rattle.addr.specs.declared.prefix.Prefix.{Prefix as PrefixValue}
use Rattle.registry.specs.declared.authorization.ImportRow.{ImportRow}
use Rattle.json_values.proofs.FaultLemmas.{lowest-append, reported-if}
use Rattle.json_values.proofs.ReadingLemmas.{Reads, reads-both, reads-each, reads-mapped, reads-ok_or}
use Rattle.json_values.specs.Faults.{fault_unless, lower_of, lowest}
use Rattle.json_values.specs.Parts.{lower}
use Rattle.csv_records.specs.declared.imports.ImportFault.{ImportFault}
use Rattle.csv_records.specs.declared.imports.ImportFault.TheVariants.{Form, Prefix, Asn, Max, Day, Count}
use Rattle.csv_records.proofs.FieldLemmas.{same_fields}

-- ---- rows

pub row_in_fields-five : (xs : RecordFields) → length xs ≡ 5
    → row_in_fields xs ≡ row_or_fault (named_asn (field_in 0 xs)) (spelled_prefix (field_in 1 xs)) (max_in (field_in 2 xs))
    (day_in (field_in 3 xs)) (day_in (field_in 4 xs))
row_in_fields-five (a ∷ b ∷ c ∷ d ∷ e ∷ []) five = refl
row_in_fields-five other five = cc

module _ (asn : Option AsnNumber) (prefix : Option PrefixValue) (max from until : Option ℕ) where
  -- of a row with these fields
  abbrev of_fields : List ImportFault
  of_fields =
      fault_unless (is_some asn) Asn ++ fault_unless (is_some prefix) Prefix ++ fault_unless (is_some max) Max
      ++ fault_unless (is_some from) Day ++ fault_unless (is_some until) Day

  reads-of : Reads import_fault_number (row_or_fault asn prefix max from until) of_fields
      (λ t. (asn ≡ Some t.asn) × (prefix ≡ Some t.prefix) × (max ≡ Some t.max) × (from ≡ Some t.from) × (until ≡ Some t.until))
  reads-of =
      reads-mapped row_of_parts (λ p says. (says.0.0.0.0, says.0.0.0.1, says.0.0.1, says.0.1, says.1))
      (reads-both
      (reads-both
      (reads-both
      (reads-both (reads-ok_or asn Asn) (reads-ok_or prefix Prefix))
      (reads-ok_or max Max)) (reads-ok_or from Day)) (reads-ok_or until Day))

reads-row : (fields : RecordFields) → Reads import_fault_number (row_in_fields fields) (row_faults fields) (SaysRow fields)
reads-row (a ∷ b ∷ c ∷ d ∷ e ∷ []) = reads-of (named_asn a) (spelled_prefix b) (max_in c) (day_in d) (day_in e)
reads-row other = record { reported = record { is = refl }; value = tt }

reads-rows : (rows : List RecordFields)
    → Reads import_fault_number (each import_fault_number row_in_fields rows) (flat_map row_faults rows) (AllZip SaysRow rows)
reads-rows rows = reads-each row_in_fields row_faults SaysRow rows reads-row

-- ---- the count of rows

-- no fault is higher than this one
lower-count : (fault : ImportFault) → lower import_fault_number fault Count ≡ fault
unfolding lower
lower-count Form = refl
lower-count Prefix = refl
lower-count Asn = refl
lower-count Max = refl
lower-count Day = refl
lower-count Count = refl

zip-length : (rows : List RecordFields) (terms : List ImportRow) → AllZip SaysRow rows terms → length rows ≡ length terms
zip-length [] [] zip = refl
zip-length [] (t ∷ terms) zip = absurd zip
zip-length (row ∷ rows) [] zip = absurd zip
zip-length (row ∷ rows) (t ∷ terms) zip = ap suc (zip-length rows terms zip.1)

err-counted : (rows : List RecordFields) (faults : List ImportFault) (r : Result (List ImportRow) ImportFault)
    → result_err r ≡ lowest import_fault_number faults → IfOk r (AllZip SaysRow rows)
    → result_err (and_then counted r)
    ≡ lowest import_fault_number (faults ++ fault_unless (is_row_count (length rows)) Count)
err-counted rows faults (Ok terms) reported zip =
    rw (lowest-append import_fault_number faults (fault_unless (is_row_count (length rows)) Count), ← reported, zip-length rows terms zip)
    (reported-if import_fault_number (is_row_count (length terms)) terms Count).is
err-counted rows faults (Err fault) reported zip =
    rw (lowest-append import_fault_number faults (fault_unless (is_row_count (length rows)) Count), ← reported)
    (first (is_row_count (length rows)))
  where
    first : (b : Bool) → Some fault ≡ lower_of import_fault_number (Some fault) (lowest import_fault_number (fault_unless b Count))
    first true = refl
    first false = ap Some (sym (lower-count fault))

says-counted : (rows : List RecordFields) (r : Result (List ImportRow) ImportFault) → IfOk r (AllZip SaysRow rows)
    → IfOk (and_then counted r) (AllZip SaysRow rows)
says-counted rows (Ok terms) zip = by_count (is_row_count (length terms)) (counted terms) refl
  where
    by_count : (b : Bool) (r : Result (List ImportRow) ImportFault) → (if b then Ok terms else Err Count) ≡ r → IfOk r (AllZip SaysRow rows)
    by_count true r is = rw (← is) zip
    by_count false r is = rw (← is) tt
says-counted rows (Err fault) zip = tt

-- ---- a text says one list of rows

same-row : (fields : RecordFields) (one other : ImportRow) → SaysRow fields one → SaysRow fields other → one ≡ other
same-row (a ∷ b ∷ c ∷ d ∷ e ∷ []) one other (asn, prefix, max, from, until) (asn_too, prefix_too, max_too, from_too, until_too) =
    ap (λ (v : AsnNumber). record { asn = v; prefix = one.prefix; max = one.max; from = one.from; until = one.until })
    (same_Some one.asn other.asn (sym asn ∙ asn_too))
    ∙ ap (λ (v : PrefixValue). record { asn = other.asn; prefix = v; max = one.max; from = one.from; until = one.until })
    (same_Some one.prefix other.prefix (sym prefix ∙ prefix_too))
    ∙ ap (λ (v : ℕ). record { asn = other.asn; prefix = other.prefix; max = v; from = one.from; until = one.until })
    (same_Some one.max other.max (sym max ∙ max_too))
    ∙ ap (λ (v : ℕ). record { asn = other.asn; prefix = other.prefix; max = other.max; from = v; until = one.until })
    (same_Some one.from other.from (sym from ∙ from_too))
    ∙ ap (λ (v : ℕ). record { asn = other.asn; prefix = other.prefix; max = other.max; from = other.from; until = v })
    (same_Some one.until other.until (sym until ∙ until_too))
same-row fields one other says says_too = absurd says

same-rows : (records : List RecordFields) (xs ys : List ImportRow) → AllZip SaysRow records xs → AllZip SaysRow records ys → xs ≡ ys
same-rows [] [] [] one other = refl
same-rows [] [] (y ∷ ys) one other = absurd other
same-rows [] (x ∷ xs) ys one other = absurd one
same-rows (r ∷ rs) [] ys one other = absurd one
same-rows (r ∷ rs) (x ∷ xs) [] one other = absurd other
same-rows (r ∷ rs) (x ∷ xs) (y ∷ ys) one other = rw (same-row r x y one.0 other.0, same-rows rs xs ys one.1 other.1) refl

abbrev below_header : List RecordFields → List RecordFields
below_header [] = []
below_header (_ ∷ rows) = rows

same-import : (text : List ℕ) (xs ys : List ImportRow) → IsImportText text xs → IsImportText text ys → xs ≡ ys
same-import text xs ys (records, is, says) (others, is_too, says_too) =
    let same : others ≡ records = ap below_header (sym is_too ∙ is) in
    same-rows records xs ys says (subst (λ (rows : List RecordFields). AllZip SaysRow rows ys) same says_too)

-- ---- texts

-- no fault is lower than this one
lower-form : (fault : ImportFault) → lower import_fault_number Form fault ≡ Form
unfolding lower
lower-form Form = refl
lower-form Prefix = refl
lower-form Asn = refl
lower-form Max = refl
lower-form Day = refl
lower-form Count = refl

form-first : (found : Option ImportFault) → Some Form ≡ lower_of import_fault_number (Some Form) found
form-first None = refl
form-first (Some fault) = ap Some (sym (lower-form fault))

err-rows : (records : List RecordFields) → result_err (rows_in_records (rows_after import_header records)) ≡ lowest import_fault_number (import_faults records)
err-rows [] = refl
err-rows (first ∷ rows) = elim (cases_Bool (fields_eq first import_header)) [
  | inl same ↦ rw same (err-counted rows (flat_map row_faults rows) (each import_fault_number row_in_fields rows)
      (reads-rows rows).reported.is (reads-rows rows).value)
  | inr other ↦ rw other (form-first (lowest import_fault_number
      (flat_map row_faults rows ++ fault_unless (is_row_count (length rows)) Count)))
]

says-rows : (records : List RecordFields) → IfOk (rows_in_records (rows_after import_header records))
    (λ terms. (rows : List RecordFields) × (records ≡ import_header ∷ rows) × AllZip SaysRow rows terms)
says-rows [] = tt
says-rows (first ∷ rows) = elim (cases_Bool (fields_eq first import_header)) [
  | inl same ↦ rw same (said (and_then counted (each import_fault_number row_in_fields rows)) (same_fields first import_header same)
      (says-counted rows (each import_fault_number row_in_fields rows) (reads-rows rows).value))
  | inr other ↦ rw other tt
]
  where
    said : (r : Result (List ImportRow) ImportFault) → first ≡ import_header → IfOk r (AllZip SaysRow rows)
        → IfOk r (λ terms. (others : List RecordFields) × (first ∷ rows ≡ import_header ∷ others) × AllZip SaysRow others terms)
    said (Ok terms) is zip = (rows, ap (λ (f : RecordFields). f ∷ rows) is, zip)
    said (Err fault) is zip = tt

-- its fault
pub import_in-reported : (text : List ℕ) → result_err (import_in text) ≡ import_fault text
import_in-reported text = err-rows (csv_records text)

pub import-reported : (text : List ℕ) (read : Result (Vec ImportRow) ImportFault) → mapped (λ v. v.items) read ≡ import_in text
    → result_err read ≡ import_fault text
import-reported text (Ok rows) is = ap result_err is ∙ import_in-reported text
import-reported text (Err fault) is = ap result_err is ∙ import_in-reported text

-- its rows
pub import_in-said : (text : List ℕ) → IfOk (import_in text) (IsImportText text)
import_in-said text = says-rows (csv_records text)

pub import-said : (text : List ℕ) (read : Result (Vec ImportRow) ImportFault) → mapped (λ v. v.items) read ≡ import_in text
    → IfOk read (λ rows. IsImportText text rows.items)
import-said text (Ok rows) is = rw (← is) at (import_in-said text)
import-said text (Err fault) is = tt

-- what says the rows of a text, or its fault, was read of it
pub import-read : (text : List ℕ) (read : Result (Vec ImportRow) ImportFault)
    → IfOk read (λ rows. IsImportText text rows.items) → result_err read ≡ import_fault text
    → mapped (λ v. v.items) read ≡ import_in text
import-read text (Ok rows) says reported = go (import_in text) refl
  where
    go : (r : Result (List ImportRow) ImportFault) → import_in text ≡ r → Ok rows.items ≡ r
    go (Ok others) is =
        ap (λ (xs : List ImportRow). Ok xs) (same-import text rows.items others says
        (subst (λ (r : Result (List ImportRow) ImportFault). IfOk r (IsImportText text)) is (import_in-said text)))
    go (Err fault) is =
        let none : None ≡ Some fault = reported ∙ sym (import_in-reported text) ∙ ap result_err is in
        absurd (none-some fault none)
import-read text (Err fault) says reported = go (import_in text) refl
  where
    go : (r : Result (List ImportRow) ImportFault) → import_in text ≡ r → Err fault ≡ r
    go (Ok others) is =
        let none : None ≡ Some fault = ap result_err (sym is) ∙ import_in-reported text ∙ sym reported in
        absurd (none-some fault none)
    go (Err other) is =
        ap (λ (n : ImportFault). Err n) (same_Some fault other (reported ∙ sym (import_in-reported text) ∙ ap result_err is))
