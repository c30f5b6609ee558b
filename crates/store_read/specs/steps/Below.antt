-- Steps of reading: the last run that begins at or before an address, among the runs of all holders.
use Rattle.std.specs.Prelude.{◌≡◌, ◌≤◌, ℕ, List, Option, Some, None}
use Rattle.sqlite_value.specs.Order.{Row}
use Rattle.addr.specs.declared.family.Family.{Family}
use Rattle.addr.specs.declared.span.Span.{Span}
use Rattle.registry.specs.RowsOfAll.{AllRows}
use Rattle.store_tables.specs.Cells.{holding_row}
use Rattle.store_read.specs.Loads.{HasRun}

-- a run of the holder that begins in the family, at or before the address
pub record IsRunBelow (rows : AllRows) (f : Family) (a : ℕ) (h : List ℕ) (s : Span) : Type 0 where
  pub held : HasRun rows h s
  pub family : s.family ≡ f
  pub begins : s.lo ≤ a

-- of all such runs, of whichever holder, none begins later
pub record IsLastBelow (rows : AllRows) (f : Family) (a : ℕ) (h : List ℕ) (s : Span) : Type 0 where
  pub is : IsRunBelow rows f a h s
  pub last : (k : List ℕ) (t : Span) → IsRunBelow rows f a k t → t.lo ≤ s.lo

-- the row of such a run; none where no run begins so
abbrev pub IsRowBelow : AllRows → Family → ℕ → Option Row → Type 0
IsRowBelow rows f a None = (h : List ℕ) (s : Span) → ¬ IsRunBelow rows f a h s
IsRowBelow rows f a (Some row) = (h : List ℕ) × (s : Span) × IsLastBelow rows f a h s × (row ≡ holding_row h s)
