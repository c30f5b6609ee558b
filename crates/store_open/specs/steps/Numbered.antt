-- Rows of a table that end in their rowids.
use Rattle.std.specs.Prelude.{◌≡◌, ℕ, ℤ, ◌-◌, Bool, true, false, List, [], ◌∷◌, ◌++◌, Option, Some, None, drop, map, length, All, IsPermutation}
use Rattle.std.specs.List.{AllByRecursion}
use Rattle.std.specs.Ordering.{is_eq, is_lt, int_cmp}
use Rattle.sqlite.specs.Effect.{Database}
use Rattle.sqlite.specs.Given.{IsPlain}
use Rattle.sqlite.specs.Listing.{understood, reads_listing}
use Rattle.sqlite_value.specs.declared.value.Value.{Value}
use Rattle.sqlite_value.specs.declared.value.Value.TheVariants.{Int}
use Rattle.sqlite_value.specs.Order.{Row, column, value_cmp}
use Rattle.sqlite_trees.specs.Tree.{rowid, IsAscending}
use Rattle.sqlite_trees.specs.View.{is_int}
use Rattle.store_tables.specs.Decode.{first_columns}
use Rattle.store_tables.specs.Tables.{OverDesk, contents, columns}
use Rattle.store_transactions.specs.steps.Statements.{AnswersSelect}

-- the last value of a row; NULL where there is none
abbrev pub last_value : Row → Value
last_value c = column c (length c - 1)

-- both are integers, and the first is below the second
abbrev pub is_integer_below : Value → Value → Bool
is_integer_below (Int m) (Int n) = is_lt (int_cmp m n)
is_integer_below _ _ = false

-- the rows end in integers, of which no two are equal
abbrev pub AscendByNumber : List Row → Type 0
AscendByNumber rows =
    IsAscending (λ a b. is_eq (value_cmp (last_value a) (last_value b)) ≡ false) rows
    × AllByRecursion (λ c. is_int (last_value c) ≡ true) rows

-- these columns of a row of a tree, and its rowid
abbrev pub columns_and_rowid : List ℕ → Row → Row
columns_and_rowid places r = columns places (drop 1 r) ++ rowid r ∷ []

-- The text selects these columns of all rows of a table, which are so many, and the rowids after them. It reads the tables alone.
pub record SelectsAll (width tree : ℕ) (places : List ℕ) (sql : List ℕ) : Type 0 where
  pub counted : length places ≡ width
  pub plain : OverDesk (λ s. IsPlain (understood s sql))
  pub unlisted : OverDesk (λ s. reads_listing s sql ≡ false)
  pub found :
      (db : Database) (rows : List Row) → AnswersSelect sql db rows
      → IsPermutation (map (columns_and_rowid places) (db.trees tree)) rows

-- these columns of all rows of a table
abbrev pub shown_in : ℕ → List ℕ → Database → List Row
shown_in tree places db = map (columns places) (contents (db.trees tree))

-- the values are those that the rows show, in some order
pub record AreRead {X : Type 0} (cells : X → Row) (fits : X → Type 0) (shown : List Row) (values : List X) : Type 0
  where
    pub fit : All fits values
    pub same : IsPermutation shown (map cells values)

-- ---- rows that are taken one at a time

-- the row ends in an integer that is at most this
abbrev pub EndsUpTo : Option ℤ → Row → Type 0
EndsUpTo None c = ⊥
EndsUpTo (Some last) c = (n : ℤ) × (last_value c ≡ Int n) × (is_lt (int_cmp last n) ≡ false)

-- the rows end in integers that differ, of which this is the last
pub record EndApart (rows : List Row) (last : Option ℤ) : Type 0 where
  pub apart : IsAscending (λ a b. is_eq (value_cmp (last_value a) (last_value b)) ≡ false) rows
  pub ends : AllByRecursion (EndsUpTo last) rows

-- the values that rows show, whose last integer this is
pub record AreTaken {X : Type 0} (cells : X → Row) (fits : X → Type 0) (width : ℕ) (rows : List Row) (values : List X) (last : Option ℤ) : Type 0
  where
    pub numbered : EndApart rows last
    pub shown : map (first_columns width) rows ≡ map cells values
    pub fit : AllByRecursion fits values
