-- What the rows of an import make, and the edit of all of them.
use Rattle.std.specs.Prelude.{◌≡◌, ℕ, ◌+◌, List, [], ◌∷◌, ◌++◌, length, None, ◌⊎◌, Result, Ok, Err, Contains, IsSomeAnd}
use Rattle.std.specs.Global.{Vec}
use Rattle.registry.specs.declared.authorization.Auth.{Auth}
use Rattle.registry.specs.declared.authorization.ImportRow.{ImportRow}
use Rattle.registry.specs.declared.change.Change.TheVariants.{Holders}
use Rattle.registry.specs.declared.change.Edit.{Edit}
use Rattle.registry.specs.declared.change.Edit.TheVariants.{Create as CreateEdit}
use Rattle.registry.specs.declared.charter.Charter.{Charter}
use Rattle.registry.specs.declared.rule.Refusal.{Refusal}
use Rattle.registry.specs.declared.rule.Refusal.TheVariants.{Denied, Memory}
use Rattle.registry.specs.Answer.{edit_imported, PutsNoneBack}
use Rattle.registry.specs.Edits.{IsOfTerms}
use Rattle.registry.specs.History.{History}
use Rattle.registry.specs.Import.{IsPresent, ImportGrows, IsImportDenied}
use Rattle.registry.specs.Rows.{Rows, edited, Carries}
use Rattle.registry.specs.Terms.{authorizations_made, row_terms}
use Rattle.policy.specs.steps.Creation.{IsCreated}

-- a row is already authorized and nothing changes
pub record FindsRow (charter : Charter) (history : History) (holder : List ℕ) (day : ℕ) (caller : List ℕ)
    (t : ImportRow) (made more : Vec Auth) (before after : Rows) : Type 0 where
  pub present : IsPresent day caller holder history t
  pub made_none : more ≡ made
  pub stays : after ≡ before

-- or the authorization that it makes is put among the rows of the holder, and among those made
pub record MakesRow (charter : Charter) (history : History) (holder : List ℕ) (day : ℕ) (caller : List ℕ)
    (t : ImportRow) (made more : Vec Auth) (before after : Rows) : Type 0 where
  pub auth : Auth
  pub absent : ¬ IsPresent day caller holder history t
  pub created : IsCreated charter history holder day caller (row_terms t) auth
  pub made_one : more.items ≡ made.items ++ auth ∷ []
  pub put : after ≡ edited (CreateEdit auth) before

abbrev pub IsRowDone :
    Charter → History → List ℕ → ℕ → List ℕ → ImportRow → Vec Auth → Vec Auth → Rows → Rows → Type 0
IsRowDone charter history holder day caller t made more before after =
    FindsRow charter history holder day caller t made more before after
    ⊎ MakesRow charter history holder day caller t made more before after

-- each authorization made is one that was made before, or has the terms of the row
abbrev pub MakesOfRow : ImportRow → List Auth → List Auth → Type 0
MakesOfRow row made more = (x : Auth) → Contains more x → Contains made x ⊎ IsOfTerms (row_terms row) x

-- no row is denied, and the edit carries all rows to the history with the creates of those that made one
pub record IsImport (charter : Charter) (history : History) (holder : List ℕ) (day : ℕ) (caller : List ℕ)
    (rows : List ImportRow) (edit : Edit) : Type 0 where
  pub after : History
  pub grows : ImportGrows charter day caller holder history rows after
  pub carries : Carries (Holders (record { holder = holder; edit = edit }) None) history after
  pub made : authorizations_made after holder ≡ authorizations_made history holder + edit_imported edit
  pub present : ℕ
  pub rest : edit_imported edit + present ≡ length rows
  pub sparing : PutsNoneBack edit

-- the first row that is denied, or the edit of all of them
abbrev pub AnswersImport :
    Charter → History → List ℕ → ℕ → List ℕ → List ImportRow → Result Edit Refusal → Type 0
AnswersImport charter history holder day caller rows (Ok edit) =
    IsImport charter history holder day caller rows edit
AnswersImport charter history holder day caller rows (Err (Denied rule place)) =
    IsSomeAnd place (λ n. IsImportDenied charter day caller holder history rows rule n)
AnswersImport charter history holder day caller rows (Err Memory) = Unit {0}
