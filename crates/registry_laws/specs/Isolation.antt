-- What a holder has and what is answered at it comes from the entries that name it.
use Rattle.std.specs.Prelude.{◌≡◌, ℕ, ◌+◌, Bool, true, false, List, ◌↔◌, Option, Result}
use Rattle.addr.specs.declared.vrp.Vrp.{Vrp}
use Rattle.registry.specs.declared.authorization.Auth.{Auth}
use Rattle.registry.specs.declared.authorization.ImportRow.{ImportRow}
use Rattle.registry.specs.declared.charter.Charter.{Charter}
use Rattle.registry.specs.declared.command.Command.{Command}
use Rattle.registry.specs.declared.command.Command.TheVariants.{Delegate}
use Rattle.registry.specs.declared.command.Proposed.{Proposed}
use Rattle.registry.specs.declared.rule.Rule.{Rule}
use Rattle.registry.specs.Answer.{number_given, Leaves, IsShown, IsListed}
use Rattle.registry.specs.DailyVrps.{IsAfterExceptions, IsVrpOn}
use Rattle.registry.specs.ExceptionsInForce.{exceptions_in_force, files_in_force}
use Rattle.registry.specs.HolderEntries.{names_holder, entries_naming, entries_for}
use Rattle.registry.specs.GrowingHistory.{Grows, IsDeniedAt}
use Rattle.registry.specs.History.{History, same_name}
use Rattle.registry.specs.HypotheticalHistory.{HypotheticalHistory, JudgesChange}
use Rattle.registry.specs.Import.{JudgesRow}
use Rattle.registry.specs.Rows.{Rows, RowsIfAny}
use Rattle.registry.specs.Terms.{authorizations_made, IsVrpOf, IsInForce}
use Rattle.registry.specs.Verdict.{Verdict, ShowVerdict, ListVerdict, IsLegal}

-- the rows of a holder are those of the entries that name it
abbrev pub RowsOfEntries : Type 0
RowsOfEntries =
    (charter : Charter) (history : History) (h : List ℕ) (rows : Option Rows) → IsLegal charter history
    → RowsIfAny history h rows ↔ RowsIfAny (entries_naming h history) h rows

-- an accepted command leaves the rows of a holder that it does not name
abbrev pub OthersKeepRows : Type 0
OthersKeepRows =
    (charter : Charter) (before : History) (day : ℕ) (caller : List ℕ) (command : Command)
    (after : History) (h : List ℕ) (rows : Option Rows)
    → IsLegal charter before → Leaves charter before day caller command after
    → names_holder h command ≡ false → RowsIfAny before h rows ↔ RowsIfAny after h rows

-- the rows of every holder except this one are the same after both, and the SLURM files in force
pub record DifferAtMostAt (holder : List ℕ) (one other : History) : Type 0 where
  pub others :
      (h : List ℕ) (rows : Option Rows) → same_name holder h ≡ false
      → RowsIfAny one h rows ↔ RowsIfAny other h rows
  pub files : files_in_force one ≡ files_in_force other

-- changes at a holder would leave the rows of every other, and the SLURM files
abbrev pub HypotheticalKeepsOthers : Type 0
HypotheticalKeepsOthers =
    (charter : Charter) (day : ℕ) (caller holder : List ℕ) (before : History)
    (changes : List Proposed) (after : History)
    → IsLegal charter before → HypotheticalHistory charter day caller holder before changes after
    → DifferAtMostAt holder before after

-- an authorization of some holder that is in force on the day by the entries that name the holder has the
-- VRP
abbrev pub IsVrpInForceByEntries : History → ℕ → Vrp → Type 0
IsVrpInForceByEntries history day v =
    (h : List ℕ) × (x : Auth) × IsInForce (entries_naming h history) h x day × IsVrpOf x v

-- the VRPs of a day are the same where the authorizations in force of each holder are taken from the
-- entries that name it
abbrev pub VrpsOfEntries : Type 0
VrpsOfEntries =
    (charter : Charter) (history : History) (day : ℕ) (v : Vrp) → IsLegal charter history
    → IsVrpOn history day v
    ↔ IsAfterExceptions (exceptions_in_force history) (IsVrpInForceByEntries history day v) v

-- a delegation concerns all holders, since none may hold an address of its prefix
abbrev pub concerns_all_holders : Command → Bool
concerns_all_holders (Delegate holder p) = true
concerns_all_holders _ = false

-- a command gets the same verdicts, and the same number for what it makes
pub record AreJudgedAlike (charter : Charter) (one other : History) (day : ℕ) (caller : List ℕ) (command : Command) : Type 0 where
  pub verdict : (rule : Option Rule) → Verdict charter one day caller command rule ↔ Verdict charter other day caller command rule
  pub number : number_given one command ≡ number_given other command

-- except for a delegation, a command is judged by the entries that name one of its holders; SLURM files, which name
-- none, by no entry
abbrev pub CommandsByEntries : Type 0
CommandsByEntries =
    (charter : Charter) (history : History) (day : ℕ) (caller : List ℕ) (command : Command)
    → IsLegal charter history → concerns_all_holders command ≡ false
    → AreJudgedAlike charter history (entries_for command history) day caller command

-- what is shown and listed to the caller is the same, and what is denied
pub record AreSeenAlike (one other : History) (h : List ℕ) (day : ℕ) (caller : List ℕ) : Type 0 where
  pub show : (n : ℕ) (rule : Option Rule) → ShowVerdict one h day caller n rule ↔ ShowVerdict other h day caller n rule
  pub shown : (n : ℕ) (x : Auth) → IsShown one h day caller n x ↔ IsShown other h day caller n x
  pub list : (rule : Option Rule) → ListVerdict one h day caller rule ↔ ListVerdict other h day caller rule
  pub listed : (xs : List Auth) → IsListed one h day caller xs ↔ IsListed other h day caller xs

-- what is shown and listed at a holder comes from the entries that name it
abbrev pub QueriesByEntries : Type 0
QueriesByEntries =
    (charter : Charter) (history : History) (h : List ℕ) (day : ℕ) (caller : List ℕ) → IsLegal charter history
    → AreSeenAlike history (entries_naming h history) h day caller

-- On a history and on the entries of it that name a holder, parts that are judged at the holder come
-- out alike: they leave a history and the entries of it that name the holder, and as many
-- authorizations are made; or the same part is denied by the same rule.
pub record GrowAlike {X : Type 0} (judges : History → X → Result (Option Command) Rule → Type 0)
    (day : ℕ) (caller holder : List ℕ) (history : History) (parts : List X) : Type 0 where
  pub grows :
      (after : History) → Grows judges day caller history parts after
      → Grows judges day caller (entries_naming holder history) parts (entries_naming holder after)
  pub only :
      (left : History) → Grows judges day caller (entries_naming holder history) parts left
      → (after : History) × Grows judges day caller history parts after
      × (left ≡ entries_naming holder after)
  pub made :
      (after : History) (n : ℕ) → Grows judges day caller history parts after
      → (authorizations_made after holder ≡ authorizations_made history holder + n)
      ↔ (authorizations_made (entries_naming holder after) holder
      ≡ authorizations_made (entries_naming holder history) holder + n)
  pub denied :
      (rule : Rule) (place : ℕ)
      → IsDeniedAt judges day caller history parts rule place
      ↔ IsDeniedAt judges day caller (entries_naming holder history) parts rule place

-- an import is judged by the entries that name its holder
abbrev pub ImportsByEntries : Type 0
ImportsByEntries =
    (charter : Charter) (history : History) (day : ℕ) (caller holder : List ℕ)
    (rows : List ImportRow) → IsLegal charter history
    → GrowAlike (JudgesRow charter day caller holder) day caller holder history rows

-- and so are hypothetical changes
abbrev pub HypotheticalByEntries : Type 0
HypotheticalByEntries =
    (charter : Charter) (history : History) (day : ℕ) (caller holder : List ℕ)
    (changes : List Proposed) → IsLegal charter history
    → GrowAlike (JudgesChange charter day caller holder) day caller holder history changes
