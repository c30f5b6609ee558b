-- Charter files: a row for each operator and each prefix of the pool. A row that repeats an earlier one is
-- refused, and the counts are checked after all rows.
use Rattle.std.specs.Prelude.{◌≡◌, ℕ, ◌+◌, false, if◌then◌else◌, Bool, List, [], ◌∷◌, ◌++◌, length, drop, map, Option, Some, None, option_map, codes}
use Rattle.std.specs.List.{list_any}
use Rattle.std.specs.Prelude.{IsPermutation}
use Rattle.std.specs.Str.{bytes_eq}
use Rattle.std.specs.BTreeSet.{contains}
use Rattle.std.specs.Cmp.Lexicographic.{slice_cmp}
use Rattle.std.specs.Ordering.{nat_cmp}
use Rattle.addr.specs.Address.{prefix_eq}
use Rattle.addr.specs.Name.{name_in}
use Rattle.addr.specs.Order.{prefix_cmp}
use Rattle.addr.specs.declared.prefix.Prefix.{Prefix}
use Rattle.registry.specs.Repeats.{has_repeat}
use Rattle.registry.specs.Charter.{operators_of, pool_of}
use Rattle.registry.specs.CharterSets.{AreAllowedCounts}
use Rattle.registry.specs.declared.charter.Charter.{Charter}
use Rattle.csv_records.specs.CsvRecords.{csv_records}
use Rattle.csv_records.specs.Fields.{RecordFields, fields_eq, two_of}
use Rattle.csv_records.specs.Lines.{prefix_text}
use Rattle.cli_texts.specs.CsvRows.{at_row, header_fault, or_else, prefix_fault, fault_if_none}
use Rattle.cli_texts.specs.ProgramFaults.{fault_of_file}
use Rattle.cli_texts.specs.declared.charter_file.CharterRow.{CharterRow}
use Rattle.cli_texts.specs.declared.charter_file.CharterRow.TheVariants.{Operator, Pool}
use Rattle.cli_texts.specs.declared.charter_file.CharterRows.{CharterRows}
use Rattle.cli_texts.specs.declared.fault.FileFault.{FileFault}
use Rattle.cli_texts.specs.declared.fault.InputFile.TheVariants as input
use Rattle.cli_texts.specs.declared.fault.ProgramFault.{ProgramFault}
use Rattle.cli_texts.specs.declared.fault.ProgramFault.TheVariants as fault
use Rattle.cli_texts.specs.declared.fault.RowFault.{RowFault}
use Rattle.cli_texts.specs.declared.fault.RowFault.TheVariants as row

abbrev pub charter_header : RecordFields
charter_header = codes "kind" ∷ codes "value" ∷ []

abbrev pub operator_kind : List ℕ
operator_kind = codes "operator"

abbrev pub pool_kind : List ℕ
pool_kind = codes "pool"

abbrev pub kind_of : CharterRow → List ℕ
kind_of (Operator name) = operator_kind
kind_of (Pool prefix) = pool_kind

abbrev pub value_of : CharterRow → List ℕ
value_of (Operator name) = name
value_of (Pool prefix) = prefix_text prefix

abbrev pub charter_row : CharterRow → RecordFields
charter_row r = kind_of r ∷ value_of r ∷ []

abbrev pub operators_in : List CharterRow → List (List ℕ)
operators_in [] = []
operators_in (Operator name ∷ rows) = name ∷ operators_in rows
operators_in (Pool prefix ∷ rows) = operators_in rows

abbrev pub pool_in : List CharterRow → List Prefix
pool_in [] = []
pool_in (Operator name ∷ rows) = pool_in rows
pool_in (Pool prefix ∷ rows) = prefix ∷ pool_in rows

-- ---- faults

abbrev pub kind_and_value_fault : List ℕ → List ℕ → Option RowFault
kind_and_value_fault kind value =
    if bytes_eq kind operator_kind then fault_if_none (name_in value) row.Name else
    if bytes_eq kind pool_kind then prefix_fault value else Some row.Kind

abbrev pub fault_of_pair : Option (List ℕ × List ℕ) → Option RowFault
fault_of_pair None = Some row.Fields
fault_of_pair (Some texts) = kind_and_value_fault texts.0 texts.1

-- a row after these earlier ones
abbrev pub charter_fault : List RecordFields → RecordFields → Option RowFault
charter_fault earlier fields = or_else (fault_of_pair (two_of fields))
    (if list_any (λ before. fields_eq before fields) earlier then Some row.Repeated else None)

abbrev pub first_charter_fault : List RecordFields → List RecordFields → Option FileFault
first_charter_fault earlier [] = None
first_charter_fault earlier (fields ∷ rows) =
    at_row (length earlier + 1) (charter_fault earlier fields) (first_charter_fault (earlier ++ fields ∷ []) rows)

-- the first fault of the header and the rows
abbrev pub charter_file_fault : List RecordFields → Option FileFault
charter_file_fault records = or_else (header_fault charter_header records) (first_charter_fault [] (drop 1 records))

-- ---- charters

-- the records are the header and these rows
abbrev pub IsCharterFile : List ℕ → List CharterRow → Type 0
IsCharterFile text rows = csv_records text ≡ charter_header ∷ map charter_row rows

-- the charter has the operators and the pool of the file
pub record IsCharterOf (text : List ℕ) (charter : Charter) (rows : List CharterRow) : Type 0 where
  pub file : IsCharterFile text rows
  pub faultless : charter_file_fault (csv_records text) ≡ None
  pub operators : IsPermutation (operators_in rows) (operators_of charter)
  pub pool : IsPermutation (pool_in rows) (pool_of charter)

-- why a charter file is refused: the header or the first faulty row, or else the counts
abbrev pub RefusesCharter : ProgramFault → List ℕ → Type 0
RefusesCharter fault.Memory text = Unit
RefusesCharter (fault.Header which) text =
    option_map (fault_of_file input.Charter) (charter_file_fault (csv_records text)) ≡ Some (fault.Header which)
RefusesCharter (fault.Row which k why) text =
    option_map (fault_of_file input.Charter) (charter_file_fault (csv_records text)) ≡ Some (fault.Row which k why)
RefusesCharter fault.CharterCount text = (charter_file_fault (csv_records text) ≡ None)
    × (rows : List CharterRow) × IsCharterFile text rows × ¬ (AreAllowedCounts (operators_in rows) (pool_in rows))
RefusesCharter fault.Words text = ⊥
RefusesCharter fault.Day text = ⊥
RefusesCharter fault.File text = ⊥
RefusesCharter fault.Database text = ⊥
RefusesCharter fault.Socket text = ⊥
RefusesCharter fault.Stream text = ⊥
RefusesCharter fault.Schema text = ⊥
RefusesCharter fault.Exists text = ⊥

-- ---- rows that were read

-- the rows say the same
abbrev pub same_row : CharterRow → CharterRow → Bool
same_row (Operator name) (Operator other) = bytes_eq name other
same_row (Operator name) (Pool other) = false
same_row (Pool prefix) (Operator other) = false
same_row (Pool prefix) (Pool other) = prefix_eq prefix other

-- what the row says is in its set
abbrev pub is_noted : CharterRows → CharterRow → Bool
is_noted kept (Operator name) = contains (slice_cmp nat_cmp) kept.names name
is_noted kept (Pool prefix) = contains prefix_cmp kept.prefixes prefix

-- these rows were read and kept
pub record HoldsRows (kept : CharterRows) (rows : List CharterRow) : Type 0 where
  pub operators : kept.operators.items ≡ operators_in rows
  pub pool : kept.pool.items ≡ pool_in rows
  pub count : length rows ≡ length kept.operators.items + length kept.pool.items
  pub once : has_repeat same_row rows ≡ false
  pub noted : (r : CharterRow) → is_noted kept r ≡ list_any (λ e. same_row e r) rows
