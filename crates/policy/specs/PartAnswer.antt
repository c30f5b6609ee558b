-- What hypothetical changes make of a part of the rows of a holder.
use Rattle.std.specs.Prelude.{◌≡◌, ℕ, Bool, List, filter, Result, Ok, Err}
use Rattle.registry.specs.declared.charter.Charter.{Charter}
use Rattle.registry.specs.declared.authorization.Auth.{Auth}
use Rattle.registry.specs.declared.command.Proposed.{Proposed}
use Rattle.registry.specs.declared.rows.HolderRows.{HolderRows}
use Rattle.registry.specs.declared.rule.Refusal.{Refusal}
use Rattle.registry.specs.Answer.{IsHypotheticalAnswer}
use Rattle.registry.specs.History.{History}
use Rattle.registry.specs.HypotheticalHistory.{HypotheticalHistory}
use Rattle.registry.specs.Terms.{AreActive}
use Rattle.registry.specs.PartOfRows.{not_kept}

-- Of the active authorizations of the holder, those that a test keeps are the one list before and the other after; all
-- others stay.
pub record ExchangesAuths (before after : History) (h : List ℕ) (ended begun : List Auth) : Type 0 where
  pub keep : Auth → Bool
  pub active_before : List Auth
  pub active_after : List Auth
  pub are_before : AreActive before h active_before
  pub are_after : AreActive after h active_after
  pub kept_before : ended ≡ filter keep active_before
  pub kept_after : begun ≡ filter keep active_after
  pub others : not_kept keep active_after ≡ not_kept keep active_before

-- The authorizations are those that the changes would leave in the place of these; or the rule denies the first change that
-- would be denied, and the row is its place.
abbrev pub IsPartAnswer :
    Charter → History → List ℕ → ℕ → List ℕ → List Proposed → List Auth → Result HolderRows Refusal → Type 0
IsPartAnswer charter history holder day caller changes auths (Err refusal) =
    IsHypotheticalAnswer charter history holder day caller changes (Err refusal)
IsPartAnswer charter history holder day caller changes auths (Ok part) =
    (after : History) × HypotheticalHistory charter day caller holder history changes after
    × ExchangesAuths history after holder auths part.auths.items
