-- What the queries of all rows of the tables show.
use Rattle.std.specs.Prelude.{◌≡◌, ℕ, List, [], ◌∷◌, map, flat_map, Bool, false, Contains, IsPermutation, IsTrue, ⊤, if◌then◌else◌}
use Rattle.std.specs.List.{AllByRecursion}
use Rattle.sqlite.specs.Effect.{Database}
use Rattle.sqlite_value.specs.Order.{Row}
use Rattle.sqlite_trees.specs.Tree.{Trees}
use Rattle.addr.specs.Name.{is_name}
use Rattle.registry.specs.CharterSets.{CharterSets, IsCharter}
use Rattle.registry.specs.RoaPrefixes.{AreEntries}
use Rattle.registry.specs.Values.{FilesFit, GrantFits}
use Rattle.registry.specs.declared.authorization.Auth.{Auth}
use Rattle.slurm.specs.declared.set.NamedSlurm.{NamedSlurm}
use Rattle.store_tables.specs.declared.claim.Claim.{Claim}
use Rattle.store_tables.specs.declared.entry.EntryRow.{EntryRow}
use Rattle.store_tables.specs.declared.groups.OfHolder.{OfHolder}
use Rattle.store_tables.specs.Authorizations.{claim_of, entry_rows_of}
use Rattle.store_tables.specs.Cells.{schema_row, operator_row, prefix_cells, span_cells, grant_cells, claim_cells, entry_cells, named_cells}
use Rattle.store_tables.specs.Decode.{ClaimFits, EntryRowFits, NamedFits}
use Rattle.store_tables.specs.Tables.{meta, operator, pool, holder, holding, granted, auth, slurm, claim, entry, contents, IsTree}
use Rattle.store_tables.specs.TablesHold.{HoldsFiles}
use Rattle.store_schema.specs.OldTables.{old_schema_row}
use Rattle.store_open.specs.TablesRead.{HoldSomeRows, ShowsSome, ShowsHolder, ShowsException, TablesRead}
use Rattle.store_open.specs.steps.Numbered.{shown_in, AreRead}

-- a table that has rowids shows these rows in some columns
pub record ShowsRows (tree : ℕ) (places : List ℕ) (rows : List Row) (db : Database) : Type 0 where
  pub whole : IsTree (db.trees tree)
  pub shown : IsPermutation rows (shown_in tree places db)

-- a table that has rowids shows rows that are all so in some columns
pub record ShowsEach (tree : ℕ) (places : List ℕ) (So : Row → Type 0) (db : Database) : Type 0 where
  pub whole : IsTree (db.trees tree)
  pub each : AllByRecursion So (shown_in tree places db)

-- the row that has the number of this schema, or that of schema 1
abbrev pub number_row : Bool → Row
number_row is_old = if is_old then old_schema_row else schema_row

abbrev pub HasNumber : Bool → Trees → Type 0
HasNumber is_old trees = Contains (contents (trees meta.tree)) (number_row is_old)

-- that row, and no other
abbrev pub ShowsNumber : Bool → Database → Type 0
ShowsNumber is_old = ShowsRows meta.tree (0 ∷ 1 ∷ []) (number_row is_old ∷ [])

pub record ShowsCharter (charter : CharterSets) (db : Database) : Type 0 where
  pub named : AllByRecursion (λ name. IsTrue (is_name name)) charter.operators
  pub operators : ShowsRows operator.tree (0 ∷ []) (map operator_row charter.operators) db
  pub pool : ShowsRows pool.tree (0 ∷ 1 ∷ 2 ∷ []) (map prefix_cells charter.pool) db

-- each row of the tables of holders shows a value
pub record ShowHolders (db : Database) : Type 0 where
  pub holders : ShowsEach holder.tree (0 ∷ 1 ∷ 2 ∷ []) ShowsHolder db
  pub holdings : ShowsEach holding.tree (0 ∷ 1 ∷ 2 ∷ []) (ShowsSome span_cells (λ _. ⊤)) db
  pub grants : ShowsEach granted.tree (1 ∷ 2 ∷ 3 ∷ 4 ∷ 5 ∷ 6 ∷ 7 ∷ []) (ShowsSome grant_cells GrantFits) db

-- the claim of an authorization, and the rows of its entries, with the name of its holder
abbrev pub named_claim : OfHolder Auth → OfHolder Claim
named_claim x = record { holder = x.holder; row = claim_of x.row }

abbrev pub named_entries : OfHolder Auth → List (OfHolder EntryRow)
named_entries x = map (λ r. record { holder = x.holder; row = r }) (entry_rows_of x.row)

-- the authorizations, each with the entries of one, have these claims, and these rows of entries one after the other
pub record MakeAuths (claims : List (OfHolder Claim)) (entries : List (OfHolder EntryRow)) : Type 0 where
  pub auths : List (OfHolder Auth)
  pub are_entries : AllByRecursion (λ (x : OfHolder Auth). AreEntries x.row.entries) auths
  pub same_claims : map named_claim auths ≡ claims
  pub same_entries : flat_map named_entries auths ≡ entries

-- where a row of `claim` shows a claim and then the name of its holder, and a row of `entry` so
abbrev pub claim_places : List ℕ
claim_places = 1 ∷ 2 ∷ 3 ∷ 4 ∷ 0 ∷ []

abbrev pub entry_places : List ℕ
entry_places = 1 ∷ 2 ∷ 3 ∷ 4 ∷ 5 ∷ 6 ∷ 0 ∷ []

-- what a row of `claim` shows of a claim, and a row of `entry` of an entry
abbrev pub show_claim : OfHolder Claim → Row
show_claim = named_cells claim_cells

abbrev pub show_entry : OfHolder EntryRow → Row
show_entry = named_cells entry_cells

-- the table of authorizations of schema 1 has no row
abbrev pub HasNoOldAuths : Database → Type 0
HasNoOldAuths db = db.trees auth.tree ≡ []

-- the rows of claims and of entries show values that make authorizations, and the table of schema 1 has no row
pub record ShowAuths (db : Database) : Type 0 where
  pub unused : HasNoOldAuths db
  pub claims_whole : IsTree (db.trees claim.tree)
  pub entries_whole : IsTree (db.trees entry.tree)
  pub claims : List (OfHolder Claim)
  pub entries : List (OfHolder EntryRow)
  pub claims_read : AreRead show_claim (NamedFits ClaimFits) (shown_in claim.tree claim_places db) claims
  pub entries_read : AreRead show_entry (NamedFits EntryRowFits) (shown_in entry.tree entry_places db) entries
  pub made : MakeAuths claims entries

-- each row of the table of exceptions shows one, and the table holds SLURM files in range
pub record ShowExceptions (db : Database) : Type 0 where
  pub rows : ShowsEach slurm.tree (0 ∷ 1 ∷ 2 ∷ 3 ∷ 4 ∷ 5 ∷ 6 ∷ 7 ∷ []) ShowsException db
  pub files : (files : List NamedSlurm) × HoldsFiles files (contents (db.trees slurm.tree)) × FilesFit files

-- what the tables show beside those of claims and of entries
pub record ShowsOthers (charter : CharterSets) (db : Database) : Type 0 where
  pub numbered : ShowsNumber false db
  pub valid : IsCharter charter
  pub chartered : ShowsCharter charter db
  pub holders : ShowHolders db
  pub unused : HasNoOldAuths db
  pub excepted : ShowExceptions db

-- the tables hold the charter and some rows, and they read
abbrev pub ReadAndHold : CharterSets → Database → Type 0
ReadAndHold charter db = HoldSomeRows charter db.trees × TablesRead db.trees
