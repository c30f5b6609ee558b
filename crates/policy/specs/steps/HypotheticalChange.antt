-- What one hypothetical change does to a part of the rows, and to the whole.
use Rattle.std.specs.Prelude.{◌≡◌, ℕ, Bool, List, ◌∷◌, Some, None}
use Rattle.registry.specs.declared.charter.Charter.{Charter}
use Rattle.registry.specs.declared.authorization.Auth.{Auth}
use Rattle.registry.specs.declared.command.Proposed.{Proposed}
use Rattle.registry.specs.History.{History}
use Rattle.registry.specs.HypotheticalHistory.{hypothetical_command}
use Rattle.registry.specs.Rows.{Rows, RowsIfAny}
use Rattle.registry.specs.Verdict.{IsLegal, Verdict}
use Rattle.registry.specs.PartOfRows.{IsPartFor, not_kept}

-- a fact of each legal history and holder whose rows these are a part of, whichever authorizations it keeps
abbrev pub OfPart :
    List Proposed → ℕ → ℕ → Rows → (Charter → History → List ℕ → (Auth → Bool) → Rows → Type 0) → Type 0
OfPart changes more left_out part fact =
    (charter : Charter) (history : History) (h : List ℕ) (keep : Auth → Bool) (whole : Rows)
    → IsLegal charter history → RowsIfAny history h (Some whole)
    → IsPartFor changes more left_out keep whole part
    → fact charter history h keep whole

-- no rule denies it; what it leaves is a part of the rows of the history with it, for one change fewer; what the part does
-- not keep stays; and where the part is the whole, it stays so
pub record IsHypotheticalChange (charter : Charter) (history : History) (holder : List ℕ) (day : ℕ)
    (caller : List ℕ) (changes : List Proposed) (more left_out : ℕ) (change : Proposed) (keep : Auth → Bool)
    (whole part left : Rows) : Type 0 where
  pub verdict : Verdict charter history day caller (hypothetical_command holder change) None
  pub rows : Rows
  pub rows_are :
      RowsIfAny (record { day = day; caller = caller; command = hypothetical_command holder change } ∷ history)
      holder (Some rows)
  pub is_part : IsPartFor changes more left_out keep rows left
  pub others : not_kept keep rows.auths ≡ not_kept keep whole.auths
  pub alike : part ≡ whole → left ≡ rows
