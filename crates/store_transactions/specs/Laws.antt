-- What holds of every database that has the tables of a desk and obeys its schema.
use Rattle.std.specs.Prelude.{◌≡◌, ◌≢◌, Bool, ℕ, List, [], ◌∷◌, map, filter, AllPairs, IsPermutation}
use Rattle.sqlite.specs.Effect.{Database, IsDatabase}
use Rattle.sqlite_value.specs.Order.{Row}
use Rattle.store_tables.specs.Tables.{desk_tables, claim, entry, contents, columns, IsTree}

-- the columns of the table `entry` that make a VRP: the AS, the prefix and the maxLength
abbrev pub payload_columns : Row → Row
payload_columns = columns (2 ∷ 3 ∷ 4 ∷ 5 ∷ 6 ∷ [])

-- the columns of the table `claim` that tell an authorization: the name of its holder, and its number
abbrev pub number_columns : Row → Row
number_columns = columns (0 ∷ 1 ∷ [])

-- Whichever rows of the table are picked, and in whatever order, no two show the same in some columns.
abbrev pub RowsDiffer : ℕ → (Row → Row) → Type 0
RowsDiffer tree shown =
    (db : Database) → IsDatabase db → db.schema.tables ≡ desk_tables → IsTree (db.trees tree)
    → (picked : Row → Bool) (rows : List Row)
    → IsPermutation (map shown (filter picked (contents (db.trees tree)))) rows
    → AllPairs ◌≢◌ rows

-- no two rows of the table `entry` have the same AS, prefix and maxLength
abbrev pub EntriesDiffer : Type 0
EntriesDiffer = RowsDiffer entry.tree payload_columns

-- no two rows of the table `claim` have the same holder and number
abbrev pub ClaimsDiffer : Type 0
ClaimsDiffer = RowsDiffer claim.tree number_columns
