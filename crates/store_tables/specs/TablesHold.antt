-- What the tables hold: the charter, the rows of every holder, and the SLURM files in force.
use Rattle.std.specs.Prelude.{◌≡◌, ℕ, ◌<◌, Bool, true, false, List, [], ◌∷◌, ◌++◌, map, flat_map, filter, Option, Some, None, IsPermutation}
use Rattle.std.specs.List.{AllByRecursion, enumerate_from}
use Rattle.std.specs.Ordering.{is_eq}
use Rattle.sqlite_value.specs.declared.value.Value.{Value}
use Rattle.sqlite_value.specs.declared.value.Value.TheVariants.{Text}
use Rattle.sqlite_value.specs.Order.{Row, column, value_cmp}
use Rattle.sqlite_trees.specs.Tree.{Trees, IsAscending}
use Rattle.registry.specs.CharterSets.{CharterSets}
use Rattle.registry.specs.Rows.{Rows}
use Rattle.registry.specs.RowsOfAll.{AllRows}
use Rattle.slurm.specs.Exceptions.{Exceptions}
use Rattle.slurm.specs.SlurmSets.{exceptions_named, has_entries, RiseByName}
use Rattle.slurm.specs.declared.set.NamedSlurm.{NamedSlurm}
use Rattle.store_tables.specs.declared.exception.Exception.{Exception}
use Rattle.store_tables.specs.declared.exception.Exception.TheVariants.{Filter as FilterOf, Assertion}
use Rattle.store_tables.specs.declared.exception.ExceptionRow.{ExceptionRow}
use Rattle.store_tables.specs.Decode.{IsPosition, exception_columns}
use Rattle.store_tables.specs.Tables.{meta, operator, pool, holder, holding, granted, auth, slurm, claim, entry, contents, AreTrees}
use Rattle.store_tables.specs.Cells.{schema_row, operator_row, prefix_cells, holder_row, holding_row, granted_row, claim_row, entry_row, exception_row}
use Rattle.store_tables.specs.Authorizations.{claim_of, entry_rows_of, HaveEntries}

-- A table that has rows of holders: its tree, the column that names the holder, and the rows of one holder.
pub record Part : Type 0 where
  pub tree : ℕ
  pub place : ℕ
  pub rows : List ℕ → Rows → List Row

abbrev pub holder_part : Part
holder_part = record { tree = holder.tree; place = 0; rows = λ h r. holder_row h r.granted r.created ∷ [] }

abbrev pub holding_part : Part
holding_part = record { tree = holding.tree; place = 3; rows = λ h r. map (holding_row h) r.holdings }

abbrev pub granted_part : Part
granted_part = record { tree = granted.tree; place = 0; rows = λ h r. map (granted_row h) r.grants }

-- a row for each authorization
abbrev pub claim_part : Part
claim_part = record { tree = claim.tree; place = 0; rows = λ h r. map (λ x. claim_row h (claim_of x)) r.auths }

-- a row for each entry of each authorization
abbrev pub entry_part : Part
entry_part = record { tree = entry.tree; place = 0; rows = λ h r. flat_map (λ x. map (entry_row h) (entry_rows_of x)) r.auths }

-- the items of the rows; none where the holder is not registered
abbrev pub items_if_any : {X : Type 0} → (Rows → List X) → Option Rows → List X
items_if_any _ None = []
items_if_any items (Some r) = items r

abbrev pub part_rows : Part → List ℕ → Option Rows → List Row
part_rows part h = items_if_any (part.rows h)

-- the value is this name
abbrev pub is_name_of : List ℕ → Value → Bool
is_name_of h v = is_eq (value_cmp v (Text h))

abbrev pub is_text : Value → Bool
is_text (Text t) = true
is_text _ = false

-- the table has the rows of every holder, in some order, and no others
pub record HoldsPart (part : Part) (rows : List ℕ → Option Rows) (table : List Row) : Type 0 where
  pub each : (h : List ℕ) → IsPermutation (part_rows part h (rows h)) (filter (λ c. is_name_of h (column c part.place)) table)
  pub named : AllByRecursion (λ c. is_text (column c part.place) ≡ true) table

-- the rows of the SLURM file of this name bring these exceptions in their order, at positions that rise,
-- with gaps or without
pub record ArePlaced (name : List ℕ) (exceptions : List Exception) (rows : List ExceptionRow) : Type 0 where
  pub named : AllByRecursion (λ (r : ExceptionRow). r.file ≡ name) rows
  pub brought : map (λ (r : ExceptionRow). r.exception) rows ≡ exceptions
  pub positions : AllByRecursion (λ (r : ExceptionRow). IsPosition r.position) rows
  pub rise : IsAscending (λ (a b : ExceptionRow). a.position < b.position) rows

-- the rows of a file are those of its filters and of its assertions, each kind in its order
pub record HoldsExceptions (name : List ℕ) (exceptions : Exceptions) (table : List Row) : Type 0 where
  pub filters : List ExceptionRow
  pub assertions : List ExceptionRow
  pub filters_placed : ArePlaced name (map FilterOf exceptions.filters) filters
  pub assertions_placed : ArePlaced name (map Assertion exceptions.assertions) assertions
  pub rows : IsPermutation (map exception_row (filters ++ assertions)) (map exception_columns table)

-- the row has an exception of the SLURM file of this name
abbrev pub is_of_file : List ℕ → Row → Bool
is_of_file name c = is_name_of name (column c 0)

-- the table has the rows of each of these SLURM files, which rise by name and have entries, and no others
pub record HoldsFiles (files : List NamedSlurm) (table : List Row) : Type 0 where
  pub rising : RiseByName files
  pub some : AllByRecursion (λ (f : NamedSlurm). has_entries f.file ≡ true) files
  pub each : (name : List ℕ) → HoldsExceptions name (exceptions_named files name) (filter (is_of_file name) table)
  pub named : AllByRecursion (λ c. is_text (column c 0) ≡ true) table

-- exceptions of a file at the positions 1, 2, 3 and so on
abbrev pub at_positions : List ℕ → List Exception → List ExceptionRow
at_positions name exceptions =
    map (λ (e : ℕ × Exception). let row : ExceptionRow = record { file = name; position = e.0; exception = e.1 } in row) (enumerate_from 1 exceptions)

-- the rows of a file, each kind at the positions 1, 2, 3 and so on
abbrev pub file_rows : NamedSlurm → List ExceptionRow
file_rows f = at_positions f.name (map FilterOf f.file.filters) ++ at_positions f.name (map Assertion f.file.assertions)

-- the table has the rows of these files, each kind of a file at the positions 1, 2, 3 and so on, and no other row
abbrev pub HoldsFromOne : List NamedSlurm → List Row → Type 0
HoldsFromOne files table = IsPermutation (map exception_row (flat_map file_rows files)) table

-- the tables have the number of the schema, the operators and the pool, in some order, and nothing else
pub record HoldsCharter (charter : CharterSets) (trees : Trees) : Type 0 where
  pub schema : IsPermutation (schema_row ∷ []) (contents (trees meta.tree))
  pub operators : IsPermutation (map operator_row charter.operators) (contents (trees operator.tree))
  pub pool : IsPermutation (map prefix_cells charter.pool) (contents (trees pool.tree))

-- the tables hold this charter and these rows
pub record TablesHold (charter : CharterSets) (rows : AllRows) (trees : Trees) : Type 0 where
  pub charter_kept : HoldsCharter charter trees
  pub holders : HoldsPart holder_part rows.of_holder (contents (trees holder_part.tree))
  pub holdings : HoldsPart holding_part rows.of_holder (contents (trees holding_part.tree))
  pub grants : HoldsPart granted_part rows.of_holder (contents (trees granted_part.tree))
  pub claims : HoldsPart claim_part rows.of_holder (contents (trees claim_part.tree))
  pub entries : HoldsPart entry_part rows.of_holder (contents (trees entry_part.tree))
  pub have_entries : HaveEntries rows.of_holder
  pub unused : contents (trees auth.tree) ≡ []
  pub files : HoldsFiles rows.files (contents (trees slurm.tree))
  pub whole : AreTrees trees
