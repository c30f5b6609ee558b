-- Steps of grouping exceptions: their order, and the files of exceptions in that order.
use Rattle.std.specs.Prelude.{◌≡◌, ◌≤◌, ◌+◌, ℕ, Bool, true, List, filter, length, Option, Some, None}
use Rattle.std.specs.declared.cmp.Ordering.{Ordering}
use Rattle.std.specs.Cmp.Lexicographic.{slice_cmp}
use Rattle.std.specs.List.{AllByRecursion, filter_map}
use Rattle.std.specs.List.Sorted.{IsStrictlySortedBy}
use Rattle.std.specs.Ordering.{nat_cmp, ordering_then}
use Rattle.std.specs.Str.{bytes_eq}
use Rattle.sqlite_rules.specs.Lists.{Has}
use Rattle.addr.specs.declared.vrp.Vrp.{Vrp}
use Rattle.slurm.specs.Exceptions.{Exceptions}
use Rattle.slurm.specs.SlurmSets.{RiseByName, exceptions_named, has_entries}
use Rattle.slurm.specs.declared.exceptions.TheConstants.{MOST_ENTRIES}
use Rattle.slurm.specs.declared.filter.Filter.{Filter}
use Rattle.slurm.specs.declared.set.NamedSlurm.{NamedSlurm}
use Rattle.store_tables.specs.declared.exception.Exception.{Exception}
use Rattle.store_tables.specs.declared.exception.Exception.TheVariants.{Filter as FilterOf, Assertion}
use Rattle.store_tables.specs.declared.exception.ExceptionRow.{ExceptionRow}
use Rattle.store_tables.specs.Cells.{kind_number}

-- the order by file, kind and position
abbrev pub place_cmp : ExceptionRow → ExceptionRow → Ordering
place_cmp r s =
    ordering_then (slice_cmp nat_cmp r.file s.file)
    (ordering_then (nat_cmp (kind_number r.exception) (kind_number s.exception)) (nat_cmp r.position s.position))

abbrev pub RiseByPlace : List ExceptionRow → Type 0
RiseByPlace rows = IsStrictlySortedBy place_cmp rows

abbrev pub filter_if : ExceptionRow → Option Filter
filter_if r = go r.exception
  where
    go : Exception → Option Filter
    go (FilterOf f) = Some f
    go (Assertion v) = None

abbrev pub assertion_if : ExceptionRow → Option Vrp
assertion_if r = go r.exception
  where
    go : Exception → Option Vrp
    go (FilterOf f) = None
    go (Assertion v) = Some v

-- what the exceptions say as those of one file
abbrev pub exceptions_in : List ExceptionRow → Exceptions
exceptions_in rows = record { filters = filter_map filter_if rows; assertions = filter_map assertion_if rows }

abbrev pub is_in_file : List ℕ → ExceptionRow → Bool
is_in_file name r = bytes_eq r.file name

-- no file has more of the exceptions than it may have
abbrev pub AreFew : List ExceptionRow → Type 0
AreFew rows = (name : List ℕ) → length (filter (is_in_file name) rows) ≤ MOST_ENTRIES

-- the files of these exceptions, and no others
pub record AreFilesIn (rows : List ExceptionRow) (files : List NamedSlurm) : Type 0 where
  pub rising : RiseByName files
  pub some : AllByRecursion (λ (f : NamedSlurm). has_entries f.file ≡ true) files
  pub few : AllByRecursion (λ (f : NamedSlurm). length f.file.filters + length f.file.assertions ≤ MOST_ENTRIES) files
  pub each : (name : List ℕ) → exceptions_named files name ≡ exceptions_in (filter (is_in_file name) rows)
  pub among : AllByRecursion (λ (f : NamedSlurm). (r : ExceptionRow) × Has rows r × (r.file ≡ f.name)) files
