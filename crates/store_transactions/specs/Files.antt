-- What the table of exceptions shows, and the SLURM files that it holds.
use Rattle.std.specs.Prelude.{◌≡◌, ◌≤◌, ℕ, List, map, filter, length, All, IsPermutation}
use Rattle.sqlite_value.specs.Order.{Row}
use Rattle.registry.specs.Values.{FilesFit}
use Rattle.slurm.specs.Exceptions.{Exceptions}
use Rattle.slurm.specs.declared.exceptions.TheConstants.{MOST_ENTRIES}
use Rattle.slurm.specs.declared.set.NamedSlurm.{NamedSlurm}
use Rattle.store_tables.specs.declared.exception.ExceptionRow.{ExceptionRow}
use Rattle.store_tables.specs.Cells.{exception_row}
use Rattle.store_tables.specs.Decode.{ExceptionRowFits, exception_columns}
use Rattle.store_tables.specs.TablesHold.{HoldsFiles, is_of_file}

-- the table shows these exceptions, in some order, each of which is in its range
pub record ShowsExceptions (exceptions : List ExceptionRow) (table : List Row) : Type 0 where
  pub fit : All ExceptionRowFits exceptions
  pub same : IsPermutation (map exception_columns table) (map exception_row exceptions)

-- no SLURM file has more of the rows than a file may have exceptions
abbrev pub AreFewOfEach : List Row → Type 0
AreFewOfEach rows = (name : List ℕ) → length (filter (is_of_file name) rows) ≤ MOST_ENTRIES

-- the table holds SLURM files, each in its range, and these are they without their names, by rising name
pub record HoldsInRange (files : List Exceptions) (table : List Row) : Type 0 where
  pub named : List NamedSlurm
  pub same : files ≡ map (λ (f : NamedSlurm). f.file) named
  pub held : HoldsFiles named table
  pub fit : FilesFit named
