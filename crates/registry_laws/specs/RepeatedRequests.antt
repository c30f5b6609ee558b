-- A command that is sent again. Where it is denied the history stays as it is, and the rows and the
-- SLURM files with it.
use Rattle.std.specs.Prelude.{◌≡◌, ℕ, Bool, true, false, List, ◌++◌, Option, ◌↔◌}
use Rattle.std.specs.List.{list_any}
use Rattle.std.specs.Option.{IfSome}
use Rattle.registry.specs.declared.authorization.ImportRow.{ImportRow}
use Rattle.registry.specs.declared.charter.Charter.{Charter}
use Rattle.registry.specs.declared.command.Command.{Command}
use Rattle.registry.specs.declared.command.Command.TheVariants.{Grant}
use Rattle.registry.specs.declared.rule.Rule.{Rule}
use Rattle.registry.specs.Answer.{holder_of, taker_of, Leaves}
use Rattle.registry.specs.ExceptionsInForce.{brings_exceptions, files_in_force}
use Rattle.registry.specs.History.{History}
use Rattle.registry.specs.HolderEntries.{names_holder}
use Rattle.registry.specs.Import.{ImportGrows, IsImportDenied}
use Rattle.registry.specs.Rows.{Rows, RowsIfAny}
use Rattle.registry.specs.Values.{CommandFits}
use Rattle.registry.specs.Verdict.{IsLegal}

-- each grant is another one
abbrev pub is_grant : Command → Bool
is_grant (Grant holder terms) = true
is_grant _ = false

-- some entry names the holder
abbrev pub is_named : List ℕ → History → Bool
is_named h entries = list_any (λ e. names_holder h e.command) entries

-- some entry brings SLURM files
abbrev pub has_slurm_file : History → Bool
has_slurm_file entries = list_any (λ e. brings_exceptions e.command) entries

-- no entry names a holder that the command names, nor brings SLURM files if the command brings some
pub record NoneNames (command : Command) (entries : History) : Type 0 where
  pub holder : IfSome (holder_of command) (λ h. is_named h entries ≡ false)
  pub taker : IfSome (taker_of command) (λ h. is_named h entries ≡ false)
  pub file : brings_exceptions command ≡ true → has_slurm_file entries ≡ false

-- the rows of every holder and the SLURM files in force are the same after both
pub record HaveSameRows (one other : History) : Type 0 where
  pub holders : (h : List ℕ) (rows : Option Rows) → RowsIfAny one h rows ↔ RowsIfAny other h rows
  pub files : files_in_force one ≡ files_in_force other

-- A command other than a grant was accepted, its values are those of their types, and no later entry names one of its
-- holders or, if it brought SLURM files, brings some. Then the same command of any caller on any day, if it is accepted
-- again, leaves the rows of every holder and the SLURM files in force. The types matter to a create alone: no two
-- authorizations share an entry, so one of no entries could be made again.
abbrev pub RepeatsLeaveRows : Type 0
RepeatsLeaveRows =
    (charter : Charter) (before : History) (first_day : ℕ) (first_caller : List ℕ)
    (command : Command) (left later : History) (day : ℕ) (caller : List ℕ) (again : History)
    → CommandFits command
    → Leaves charter before first_day first_caller command left → IsLegal charter (later ++ left)
    → is_grant command ≡ false → NoneNames command later
    → Leaves charter (later ++ left) day caller command again
    → HaveSameRows (later ++ left) again

-- an import of these rows makes nothing: sent by this caller on this day it is accepted, no row is
-- denied, and it leaves the history as it is; and it does so where it is accepted of any caller on any
-- day
pub record MakesNothing (charter : Charter) (day : ℕ) (caller holder : List ℕ)
    (rows : List ImportRow) (history : History) : Type 0 where
  pub accepted : ImportGrows charter day caller holder history rows history
  pub denied :
      (rule : Rule) (place : ℕ)
      → IsImportDenied charter day caller holder history rows rule place → ⊥
  pub nothing :
      (other_day : ℕ) (other : List ℕ) (again : History)
      → ImportGrows charter other_day other holder history rows again → again ≡ history

-- after an import was accepted, and no later entry names its holder, the same import makes nothing
abbrev pub ImportsRepeat : Type 0
ImportsRepeat =
    (charter : Charter) (before : History) (day : ℕ) (caller holder : List ℕ)
    (rows : List ImportRow) (left later : History)
    → ImportGrows charter day caller holder before rows left → IsLegal charter (later ++ left)
    → is_named holder later ≡ false → MakesNothing charter day caller holder rows (later ++ left)
