-- What it is to read typed values from the cells that show them.
use Rattle.std.specs.Prelude.{◌≡◌, ◌≢◌, ◌≤◌, ℕ, List, map, All, Any, Option, MatchOption, IsTrue}
use Rattle.std.specs.Global.{Vec}
use Rattle.std.specs.List.{range_with_len}
use Rattle.sqlite_value.specs.Order.{Row}
use Rattle.addr.specs.Address.{FitsMaxLength}
use Rattle.addr.specs.Day.{IsDay}
use Rattle.addr.specs.Name.{is_name}
use Rattle.registry.specs.Values.{IsU32, IsNumber, FilterFits, VrpFits}
use Rattle.store_tables.specs.declared.claim.Claim.{Claim}
use Rattle.store_tables.specs.declared.entry.EntryRow.{EntryRow}
use Rattle.store_tables.specs.declared.exception.Exception.{Exception}
use Rattle.store_tables.specs.declared.exception.Exception.TheVariants.{Filter as FilterOf, Assertion}
use Rattle.store_tables.specs.declared.exception.ExceptionRow.{ExceptionRow}
use Rattle.store_tables.specs.declared.groups.OfHolder.{OfHolder}
use Rattle.store_tables.specs.Tables.{columns}

-- No value shows these cells. Only values that fit their Rust type count, since a `u32` is any number
-- here.
abbrev pub ShowsNone : {X Y : Type 0} → (X → Y) → (X → Type 0) → Y → Type 0
ShowsNone {X} cells fits shown = (x : X) → fits x → cells x ≢ shown

-- what is read of cells: the value that shows them, or none where no value does
abbrev pub Decodes : {X Y : Type 0} → (X → Y) → (X → Type 0) → Y → Option X → Type 0
Decodes cells fits shown result =
    MatchOption result (ShowsNone cells fits shown) (λ x. fits x × (shown ≡ cells x))

-- what is read of rows: the values that show them, in their order, or none where some row shows no value
abbrev pub DecodesAll : {X Y : Type 0} → (X → Y) → (X → Type 0) → List Y → Option (Vec X) → Type 0
DecodesAll cells fits shown result =
    MatchOption result (Any (ShowsNone cells fits) shown) (λ values. All fits values.items × (shown ≡ map cells values.items))

-- the first columns of a row
abbrev pub first_columns : ℕ → Row → Row
first_columns count = columns (range_with_len 0 count)

-- a row of the table `slurm` as SQL shows it: one that ends before its last columns has NULL in them
abbrev pub exception_columns : Row → Row
exception_columns = first_columns 8

-- a place among the exceptions of one kind, counted from 1
abbrev pub IsPosition : ℕ → Type 0
IsPosition n = (1 ≤ n) × IsU32 n

abbrev pub ExceptionFits : Exception → Type 0
ExceptionFits (FilterOf f) = FilterFits f
ExceptionFits (Assertion v) = VrpFits v

pub record ExceptionRowFits (r : ExceptionRow) : Type 0 where
  pub file : IsTrue (is_name r.file)
  pub position : IsPosition r.position
  pub exception : ExceptionFits r.exception

-- each value is of its type and in its range
pub record ClaimFits (c : Claim) : Type 0 where
  pub number : IsNumber c.number
  pub asn : IsU32 c.asn.0
  pub from : IsDay c.from
  pub until : IsDay c.until

pub record EntryRowFits (e : EntryRow) : Type 0 where
  pub number : IsNumber e.number
  pub asn : IsU32 e.asn.0
  pub max : FitsMaxLength e.entry.prefix e.entry.max

-- the name is one, and what is beside it is in its range
abbrev pub NamedFits : {X : Type 0} → (X → Type 0) → OfHolder X → Type 0
NamedFits fits x = IsTrue (is_name x.holder) × fits x.row
