-- Steps of reading: what a query answers as raw rows.
use Rattle.std.specs.Prelude.{◌≡◌, ℕ, false, List, [], ◌∷◌, map, Option, Some, None, IsPermutation, IsSorted}
use Rattle.std.specs.declared.cmp.Ordering.{Ordering}
use Rattle.std.specs.Ordering.{on}
use Rattle.sqlite.specs.Effect.{Database, Reads}
use Rattle.sqlite.specs.Given.{IsPlain}
use Rattle.sqlite.specs.Listing.{understood, reads_listing}
use Rattle.sqlite.proofs.Callers.{command_of}
use Rattle.sqlite_value.specs.declared.value.Value.TheVariants.{Text}
use Rattle.sqlite_value.specs.Order.{Row, column, value_cmp}
use Rattle.registry.specs.CharterSets.{CharterSets}
use Rattle.registry.specs.Rows.{Rows}
use Rattle.registry.specs.RowsOfAll.{AllRows}
use Rattle.store_tables.specs.Decode.{first_columns}
use Rattle.store_tables.specs.Tables.{desk_beside, OverDesk}
use Rattle.store_tables.specs.TablesHold.{TablesHold, items_if_any}
use Rattle.store_tables.specs.declared.holder.Counters.{Counters}

abbrev pub by_column : ℕ → Row → Row → Ordering
by_column at = on (λ r. column r at) value_cmp

-- ---- queries of the rows of one holder

-- over the tables of a desk the text answers these rows, with these parameters, and with a name as its parameter
abbrev pub AnswersRows : List ℕ → Row → Database → List Row → Type 0
AnswersRows sql params db rows = Reads (command_of (understood (desk_beside db.schema) sql)) db params rows

abbrev pub AreSelected : List ℕ → List ℕ → Database → List Row → Type 0
AreSelected sql name = AnswersRows sql (Text name ∷ [])

-- With these parameters the text selects these values of a holder: its answer has the row of each, and no
-- other, and rises by this order, and its rows have so many columns. No two values have one row. It reads the
-- tables alone.
pub record SelectsWith
    {X : Type 0} (cells : X → Row) (width : ℕ) (items : Rows → List X) (cmp : Row → Row → Ordering)
    (sql h : List ℕ) (params : Row)
    : Type 0 where
  pub plain : OverDesk (λ s. IsPlain (understood s sql))
  pub unlisted : OverDesk (λ s. reads_listing s sql ≡ false)
  pub found :
      (db : Database) (rows : List Row) → AnswersRows sql params db rows
      → (charter : CharterSets) (all : AllRows) → TablesHold charter all db.trees
      → IsPermutation (map cells (items_if_any items (all.of_holder h))) rows
  pub rising : (db : Database) (rows : List Row) → AnswersRows sql params db rows → IsSorted cmp rows
  pub whole : (db : Database) (rows : List Row) → AnswersRows sql params db rows → map (first_columns width) rows ≡ rows
  pub once : (x y : X) → cells x ≡ cells y → x ≡ y

-- the text selects these values of the holder that its parameter names
abbrev pub Selects :
    {X : Type 0} → (X → Row) → ℕ → (Rows → List X) → (Row → Row → Ordering) → List ℕ → Type 0
Selects cells width items cmp sql = (h : List ℕ) → SelectsWith cells width items cmp sql h (Text h ∷ [])

-- the counters of a holder; none where it is not registered
abbrev pub counters_if_any : Option Rows → Option Counters
counters_if_any None = None
counters_if_any (Some r) = Some (record { granted = r.granted; created = r.created })
