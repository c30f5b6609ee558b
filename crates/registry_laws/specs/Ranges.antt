-- The rows of a legal history whose values are those of their types are in their ranges.
use Rattle.std.specs.Prelude.{ℕ, List}
use Rattle.registry.specs.declared.charter.Charter.{Charter}
use Rattle.registry.specs.ExceptionsInForce.{files_in_force}
use Rattle.registry.specs.History.{History}
use Rattle.registry.specs.Rows.{Rows, RowsOf}
use Rattle.registry.specs.Values.{FilesFit, HistoryFits, RowsFit}
use Rattle.registry.specs.Verdict.{IsLegal}

-- those of each holder: create and amend require it of each maxLength, and no number is given after the last
-- one
abbrev pub LegalRowsFit : Type 0
LegalRowsFit =
    (charter : Charter) (history : History) (h : List ℕ) (rows : Rows)
    → IsLegal charter history → HistoryFits history → RowsOf history h rows → RowsFit rows

-- so are the names of the SLURM files in force and what these say
abbrev pub FilesInForceFit : Type 0
FilesInForceFit = (history : History) → HistoryFits history → FilesFit (files_in_force history)
