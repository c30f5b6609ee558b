-- The move of the rows of schema 1 to the tables of a desk.
use Rattle.std.specs.Prelude.{◌≡◌, ◌≢◌, ℕ, true, List, [], ◌∷◌, map, IsPermutation}
use Rattle.std.specs.List.{AllByRecursion}
use Rattle.sqlite_value.specs.Order.{Row}
use Rattle.sqlite_trees.specs.Tree.{Trees}
use Rattle.addr.specs.declared.roa_prefix.RoaPrefix.{RoaPrefix}
use Rattle.store_tables.specs.declared.claim.Claim.{Claim}
use Rattle.store_tables.specs.Cells.{schema_row}
use Rattle.store_schema.specs.OldTables.{old_schema_row, auth_row, is_old_table, AreOldTrees}
use Rattle.store_tables.specs.Tables.{meta, auth, claim, entry, columns, contents, AreTrees}

-- the columns holder, number, asn, opens and ends of a row of `auth`, which are those of its claim
abbrev pub claim_columns : Row → Row
claim_columns = columns (0 ∷ 1 ∷ 2 ∷ 7 ∷ 8 ∷ [])

-- its columns holder, number, asn, family, lo, len and max, which are those of its one entry
abbrev pub entry_columns : Row → Row
entry_columns = columns (0 ∷ 1 ∷ 2 ∷ 3 ∷ 4 ∷ 5 ∷ 6 ∷ [])

-- each row is that of an authorization of some holder, a claim with its one entry
abbrev pub AreAuthRows : List Row → Type 0
AreAuthRows rows = AllByRecursion (λ row. (h : List ℕ) × (c : Claim) × (e : RoaPrefix) × (row ≡ auth_row h c e)) rows

-- What the move needs of the tables of schema 1: `meta` has the number of that schema and nothing else, and `auth` the
-- rows of authorizations. Tables that hold a charter and rows are such.
pub record AreMovable (old : Trees) : Type 0 where
  pub number : IsPermutation (old_schema_row ∷ []) (contents (old meta.tree))
  pub auths : AreAuthRows (contents (old auth.tree))
  pub whole : AreOldTrees old

-- the tables of schema 1 are as they were, and the two beside them have no row
pub record IsWidened (old new : Trees) : Type 0 where
  pub same : (t : ℕ) → is_old_table t ≡ true → new t ≡ old t
  pub no_claims : new claim.tree ≡ []
  pub no_entries : new entry.tree ≡ []

-- Each row of `auth` went, and its claim and its entry are there, in some order. The number is that of this schema. The
-- other tables of schema 1 are as they were.
pub record IsMoved (old new : Trees) : Type 0 where
  pub claims : IsPermutation (map claim_columns (contents (old auth.tree))) (contents (new claim.tree))
  pub entries : IsPermutation (map entry_columns (contents (old auth.tree))) (contents (new entry.tree))
  pub emptied : contents (new auth.tree) ≡ []
  pub number : IsPermutation (schema_row ∷ []) (contents (new meta.tree))
  pub others : (t : ℕ) → is_old_table t ≡ true → t ≢ auth.tree → t ≢ meta.tree → new t ≡ old t
  pub whole : AreTrees new
