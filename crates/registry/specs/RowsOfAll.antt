-- The rows of every holder, by its name, with the SLURM files: the history that they are of, and what
-- they say together.
use Rattle.std.specs.Prelude.{◌≡◌, ℕ, ◌≤◌, List, [], Option, Some, None, Contains}
use Rattle.addr.specs.Spans.{HaveSome}
use Rattle.addr.specs.declared.prefix.Prefix.{Prefix}
use Rattle.addr.specs.declared.vrp.Vrp.{Vrp}
use Rattle.slurm.specs.declared.set.NamedSlurm.{NamedSlurm}
use Rattle.registry.specs.declared.authorization.Auth.{Auth}
use Rattle.registry.specs.declared.change.Change.{Change}
use Rattle.registry.specs.ExceptionsInForce.{files_in_force}
use Rattle.registry.specs.History.{History}
use Rattle.registry.specs.Rows.{Rows, RowsIfAny, changed, changed_files}
use Rattle.registry.specs.Terms.{IsVrpOf}

pub record AllRows : Type 0 where
  pub of_holder : List ℕ → Option Rows
  pub files : List NamedSlurm

-- the rows of a desk on which nothing was accepted
abbrev pub blank_rows : AllRows
blank_rows = record { of_holder = λ h. None; files = [] }

-- all rows after a change, from those before it
abbrev pub changed_rows : Change → AllRows → AllRows
changed_rows change rows = record {
  of_holder = λ h. changed change h (rows.of_holder h);
  files = changed_files change rows.files;
}

-- the rows of each holder are those of the history, and the files are those in force
pub record HasRows (rows : AllRows) (history : History) : Type 0 where
  pub holders : (h : List ℕ) → RowsIfAny history h (rows.of_holder h)
  pub files : rows.files ≡ files_in_force history

-- some holder holds an address of the prefix
abbrev pub IsTaken : AllRows → Prefix → Type 0
IsTaken rows p =
    (h : List ℕ) × (r : Rows) × (rows.of_holder h ≡ Some r) × HaveSome r.holdings p

-- an authorization of some holder is in force on the day and gives the VRP
abbrev pub IsGivenOn : AllRows → ℕ → Vrp → Type 0
IsGivenOn rows day v =
    (h : List ℕ) × (r : Rows) × (x : Auth)
    × (rows.of_holder h ≡ Some r) × Contains r.auths x × (x.from ≤ day) × (day ≤ x.until)
    × IsVrpOf x v
