-- A request on a history has at most one outcome: one history that it leaves, or one rule at one place
-- that denies it.
use Rattle.std.specs.Prelude.{◌≡◌, ℕ, List}
use Rattle.registry.specs.declared.charter.Charter.{Charter}
use Rattle.registry.specs.declared.command.Command.{Command}
use Rattle.registry.specs.declared.command.Proposed.{Proposed}
use Rattle.registry.specs.declared.rule.Rule.{Rule}
use Rattle.registry.specs.Answer.{Leaves, IsDenied}
use Rattle.registry.specs.History.{History}
use Rattle.registry.specs.HypotheticalHistory.{HypotheticalHistory, IsChangeDenied}

-- there is one history at most, or one rule and place, and not both
pub record HasOneOutcome {Place : Type 0} (leaves : History → Type 0)
    (is_denied : Rule → Place → Type 0) : Type 0 where
  pub left : (after other : History) → leaves after → leaves other → after ≡ other
  pub denied :
      (rule other : Rule) (place second : Place) → is_denied rule place → is_denied other second
      → (rule ≡ other) × (place ≡ second)
  pub either :
      (after : History) (rule : Rule) (place : Place) → leaves after → is_denied rule place → ⊥

abbrev pub OneOutcome : Type 0
OneOutcome =
    (charter : Charter) (history : History) (day : ℕ) (caller : List ℕ) (command : Command)
    → HasOneOutcome (Leaves charter history day caller command)
    (IsDenied charter history day caller command)

-- the same of hypothetical changes
abbrev pub OneHypotheticalOutcome : Type 0
OneHypotheticalOutcome =
    (charter : Charter) (day : ℕ) (caller holder : List ℕ) (history : History)
    (changes : List Proposed)
    → HasOneOutcome (HypotheticalHistory charter day caller holder history changes)
    (IsChangeDenied charter day caller holder history changes)
