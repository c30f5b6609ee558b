-- The tables of a desk of schema 1, and what they hold: the charter, the rows of every holder, and the SLURM files in
-- force. An authorization with its one entry is a row of the table `auth`; there is no `claim` and no
-- `entry`.
use Rattle.std.specs.Prelude.{◌≡◌, ◌⊎◌, ℕ, pos, ◌==◌, Bool, true, List, [], ◌∷◌, ◌++◌, length, map, flat_map, take, codes, Option, Some, Contains, IsPermutation}
use Rattle.std.specs.List.{AllByRecursion, list_any}
use Rattle.sqlite_value.specs.declared.value.Value.TheVariants.{Int, Text}
use Rattle.sqlite_value.specs.Order.{Row}
use Rattle.sqlite_trees.specs.Tree.{Trees}
use Rattle.sqlite_schema.specs.declared.schema.Index.{Index}
use Rattle.sqlite_schema.specs.declared.schema.Schema.{Schema}
use Rattle.sqlite_schema.specs.declared.schema.Table.{Table}
use Rattle.registry.specs.CharterSets.{CharterSets}
use Rattle.registry.specs.declared.authorization.Auth.{Auth}
use Rattle.addr.specs.declared.roa_prefix.RoaPrefix.{RoaPrefix}
use Rattle.registry.specs.Rows.{Rows}
use Rattle.registry.specs.RowsOfAll.{AllRows}
use Rattle.store_tables.specs.declared.claim.Claim.{Claim}
use Rattle.store_tables.specs.Authorizations.{claim_of}
use Rattle.store_tables.specs.Cells.{number_cell, operator_row, prefix_cells}
use Rattle.store_tables.specs.Tables.{meta, operator, pool, auth, slurm, desk_tables, desk_indexes, holding_of, contents, IsTree}
use Rattle.store_tables.specs.TablesHold.{Part, HoldsPart, HoldsFiles, holder_part, holding_part, granted_part}

-- ---- the schema

-- all tables of a desk except `claim` and `entry`
abbrev pub old_tables : List Table
old_tables = take 8 desk_tables

-- the indexes of their keys
abbrev pub old_indexes : List Index
old_indexes = take 9 desk_indexes

-- the index by which a holder's runs are found, in the tree after theirs
abbrev pub old_holding_of : Index
old_holding_of = record holding_of { tree = 17 }

-- a desk of schema 1 has that index, or has it not
abbrev pub old_schema : Schema
old_schema = record { tables = old_tables; indexes = old_indexes ++ old_holding_of ∷ []; views = [] }

abbrev pub old_schema_without_index : Schema
old_schema_without_index = record { tables = old_tables; indexes = old_indexes; views = [] }

abbrev pub IsOldSchema : Schema → Type 0
IsOldSchema schema = (schema ≡ old_schema) ⊎ (schema ≡ old_schema_without_index)

-- the tree has the rows of one of these tables
abbrev pub is_old_table : ℕ → Bool
is_old_table t = list_any (λ table. table.tree == t) old_tables

-- ---- the rows

-- the number of the schema
abbrev pub old_schema_row : Row
old_schema_row = Text (codes "schema") ∷ Int (pos 1) ∷ []

abbrev pub HasOldNumber : Trees → Type 0
HasOldNumber trees = Contains (contents (trees meta.tree)) old_schema_row

abbrev pub HasOneEntry : Auth → Type 0
HasOneEntry x = length x.entries ≡ 1

-- each authorization of each holder has one entry
abbrev pub HaveOneEntry : (List ℕ → Option Rows) → Type 0
HaveOneEntry rows = (h : List ℕ) (r : Rows) → rows h ≡ Some r → AllByRecursion HasOneEntry r.auths

-- the row of an authorization in the table `auth`, with the holder's name: its claim and its one entry
abbrev pub auth_row : List ℕ → Claim → RoaPrefix → Row
auth_row h c e =
    Text h ∷ number_cell c.number ∷ number_cell c.asn.0 ∷ prefix_cells e.prefix
    ++ number_cell e.max ∷ number_cell c.from ∷ number_cell c.until ∷ []

abbrev pub auth_rows : List ℕ → Auth → List Row
auth_rows h x = map (auth_row h (claim_of x)) x.entries

-- a row for each authorization, where each has one entry
abbrev pub auth_part : Part
auth_part = record { tree = auth.tree; place = 0; rows = λ h r. flat_map (auth_rows h) r.auths }

abbrev pub AreOldTrees : Trees → Type 0
AreOldTrees trees = (t : ℕ) → is_old_table t ≡ true → IsTree (trees t)

-- the tables have the number of the schema, the operators and the pool, in some order, and nothing else
pub record HoldsOldCharter (charter : CharterSets) (trees : Trees) : Type 0 where
  pub schema : IsPermutation (old_schema_row ∷ []) (contents (trees meta.tree))
  pub operators : IsPermutation (map operator_row charter.operators) (contents (trees operator.tree))
  pub pool : IsPermutation (map prefix_cells charter.pool) (contents (trees pool.tree))

-- the tables hold this charter and these rows, in which each authorization has one entry
pub record OldTablesHold (charter : CharterSets) (rows : AllRows) (trees : Trees) : Type 0 where
  pub charter_kept : HoldsOldCharter charter trees
  pub holders : HoldsPart holder_part rows.of_holder (contents (trees holder_part.tree))
  pub holdings : HoldsPart holding_part rows.of_holder (contents (trees holding_part.tree))
  pub grants : HoldsPart granted_part rows.of_holder (contents (trees granted_part.tree))
  pub auths : HoldsPart auth_part rows.of_holder (contents (trees auth_part.tree))
  pub have_one_entry : HaveOneEntry rows.of_holder
  pub files : HoldsFiles rows.files (contents (trees slurm.tree))
  pub whole : AreOldTrees trees
