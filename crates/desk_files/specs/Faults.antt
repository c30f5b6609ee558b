-- Which fault of the program says why the files at a path were not opened.
use Rattle.std.specs.Prelude.{◌≡◌, ◌≢◌, ◌⊎◌, ℕ, List, ◌++◌, codes, ⊤}
use Rattle.std.specs.IoError.{error_kind}
use Rattle.std.specs.declared.io.ErrorKind.TheVariants as kind
use Rattle.sqlite.specs.declared.error.Error.{Error}
use Rattle.sqlite.specs.declared.error.Error.TheVariants.{SqliteFailure}
use Rattle.sqlite.specs.declared.error.ErrorCode.TheVariants as code
use Rattle.sqlite_std_file.specs.declared.pair.OpenError as path
use Rattle.sqlite_std_file.specs.declared.pair.OpenError.TheVariants as path_error
use Rattle.cli_texts.specs.declared.fault.ProgramFault.{ProgramFault}
use Rattle.cli_texts.specs.declared.fault.ProgramFault.TheVariants.{Database, Memory}

-- SQLite takes the name as that of a database in memory, or as a URI
abbrev pub IsNoPath : List ℕ → Type 0
IsNoPath name = (name ≡ codes ":memory:") ⊎ ((rest : List ℕ) × (name ≡ codes "file:" ++ rest))

-- the files at a path were not opened because an allocation failed
abbrev pub IsOfMemory : path.OpenError → Type 0
IsOfMemory path_error.OutOfMemory = ⊤
IsOfMemory (path_error.Io error) = error_kind error ≡ kind.OutOfMemory
IsOfMemory path_error.Busy = ⊥
IsOfMemory path_error.HotJournal = ⊥

-- The fault is that of this error: `Memory` if an allocation failed, and else `Database`.
pub record IsFaultOf (error : Error) (fault : ProgramFault) : Type 0 where
  pub memory : error ≡ SqliteFailure code.OutOfMemory → fault ≡ Memory
  pub other : error ≢ SqliteFailure code.OutOfMemory → fault ≡ Database

-- the database or memory failed
abbrev pub IsOfDatabase : ProgramFault → Type 0
IsOfDatabase fault = (fault ≡ Database) ⊎ (fault ≡ Memory)
