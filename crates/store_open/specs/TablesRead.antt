-- What it is for the tables of a database to read.
use Rattle.std.specs.Prelude.{◌≡◌, ℕ, List, [], map, flat_map, Contains, IsPermutation, IsTrue, ⊤}
use Rattle.std.specs.List.{AllByRecursion}
use Rattle.sqlite_value.specs.Order.{Row}
use Rattle.sqlite_trees.specs.Tree.{Trees}
use Rattle.addr.specs.Name.{is_name}
use Rattle.registry.specs.CharterSets.{CharterSets, IsCharter}
use Rattle.registry.specs.declared.authorization.Auth.{Auth}
use Rattle.registry.specs.RowsOfAll.{AllRows}
use Rattle.registry.specs.Values.{IsCount, AuthFits, GrantFits, FilesFit}
use Rattle.store_tables.specs.declared.groups.OfHolder.{OfHolder}
use Rattle.store_tables.specs.declared.holder.Registered.{Registered}
use Rattle.store_tables.specs.Authorizations.{claim_of, entry_rows_of}
use Rattle.store_tables.specs.Cells.{schema_row, operator_row, prefix_cells, holder_row, holding_row, granted_row, claim_row, entry_row, exception_row}
use Rattle.store_tables.specs.Decode.{ExceptionRowFits, exception_columns}
use Rattle.store_tables.specs.Tables.{meta, operator, pool, holder, holding, granted, auth, slurm, claim, entry, contents}
use Rattle.store_tables.specs.TablesHold.{TablesHold}
use Rattle.store_transactions.specs.Files.{AreFewOfEach}

-- the row shows some value of the type
abbrev pub ShowsSome : {X : Type 0} → (X → Row) → (X → Type 0) → Row → Type 0
ShowsSome {X} cells fits c = (x : X) × fits x × (c ≡ cells x)

-- the row shows a registered holder, and how many grants and authorizations it has made
abbrev pub ShowsHolder : Row → Type 0
ShowsHolder =
    ShowsSome (λ (x : Registered). holder_row x.name x.counters.granted x.counters.created)
    (λ (x : Registered). IsTrue (is_name x.name) × IsCount x.counters.granted × IsCount x.counters.created)

-- the row shows some value of the type beside some name
abbrev pub ShowsOfHolder : {X : Type 0} → (List ℕ → X → Row) → (X → Type 0) → Row → Type 0
ShowsOfHolder {X} row fits c = (h : List ℕ) × (x : X) × fits x × (c ≡ row h x)

-- the row shows an exception of some SLURM file and its position
abbrev pub ShowsException : Row → Type 0
ShowsException = ShowsSome exception_row ExceptionRowFits

-- the tables have the operators and the pool of some charter
pub record HasSomeCharter (trees : Trees) : Type 0 where
  pub sets : CharterSets
  pub valid : IsCharter sets
  pub named : AllByRecursion (λ name. IsTrue (is_name name)) sets.operators
  pub operators_shown : IsPermutation (map operator_row sets.operators) (contents (trees operator.tree))
  pub pool_shown : IsPermutation (map prefix_cells sets.pool) (contents (trees pool.tree))

-- The tables that are the same in both schemas read: the operators and the pool are those of a charter, and each row of
-- each other table shows a value of its type. No SLURM file has more exceptions than a file may have.
pub record CommonTablesRead (trees : Trees) : Type 0 where
  pub charter : HasSomeCharter trees
  pub holders : AllByRecursion ShowsHolder (contents (trees holder.tree))
  pub holdings : AllByRecursion (ShowsOfHolder holding_row (λ _. ⊤)) (contents (trees holding.tree))
  pub grants : AllByRecursion (ShowsOfHolder granted_row GrantFits) (contents (trees granted.tree))
  pub exceptions : AllByRecursion ShowsException (map exception_columns (contents (trees slurm.tree)))
  pub exceptions_number : AreFewOfEach (contents (trees slurm.tree))

-- the row of an authorization in the table `claim`, and those of its entries in the table `entry`
abbrev pub row_of_claim : OfHolder Auth → Row
row_of_claim x = claim_row x.holder (claim_of x.row)

abbrev pub rows_of_entries : OfHolder Auth → List Row
rows_of_entries x = map (entry_row x.holder) (entry_rows_of x.row)

-- The tables have authorizations, each value of which is in its range, with 1 to 64 entries that rise by prefix: their
-- claims and their entries are the rows, in some order, and there is no other row. Nothing is in the table of schema 1.
pub record HasSomeAuths (trees : Trees) : Type 0 where
  pub auths : List (OfHolder Auth)
  pub fit : AllByRecursion (λ (x : OfHolder Auth). IsTrue (is_name x.holder) × AuthFits x.row) auths
  pub claims_shown : IsPermutation (map row_of_claim auths) (contents (trees claim.tree))
  pub entries_shown : IsPermutation (flat_map rows_of_entries auths) (contents (trees entry.tree))
  pub unused : contents (trees auth.tree) ≡ []

-- The number of the schema is there, the tables that are the same in both schemas read, and claims and entries make
-- authorizations.
pub record TablesRead (trees : Trees) : Type 0 where
  pub schema : Contains (contents (trees meta.tree)) schema_row
  pub common : CommonTablesRead trees
  pub authorizations : HasSomeAuths trees

-- the tables hold this charter and some rows, with SLURM files each of which is in its range
abbrev pub HoldSomeRows : CharterSets → Trees → Type 0
HoldSomeRows charter trees =
    (rows : AllRows) × TablesHold charter rows trees × FilesFit rows.files
