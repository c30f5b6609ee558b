-- The history that changes would leave if they were made: each is judged and numbered as if those before
-- it were done, and nothing counts as already authorized.
use Rattle.std.specs.Prelude.{◌≡◌, ℕ, List, Option, Some, None, Result, Ok, Err}
use Rattle.registry.specs.declared.charter.Charter.{Charter}
use Rattle.registry.specs.declared.command.Command.{Command}
use Rattle.registry.specs.declared.command.Command.TheVariants.{Create, Withdraw}
use Rattle.registry.specs.declared.command.Proposed.{Proposed}
use Rattle.registry.specs.declared.command.Proposed.TheVariants.{Create as ProposedCreate, Withdraw as ProposedWithdraw}
use Rattle.registry.specs.declared.rule.Rule.{Rule}
use Rattle.registry.specs.GrowingHistory.{Grows, IsDeniedAt}
use Rattle.registry.specs.History.{History}
use Rattle.registry.specs.Verdict.{Verdict}

-- the command that makes a change at a holder
abbrev pub hypothetical_command : List ℕ → Proposed → Command
hypothetical_command holder (ProposedCreate terms) = Create holder terms
hypothetical_command holder (ProposedWithdraw n) = Withdraw holder n

abbrev pub JudgesChange :
    Charter → ℕ → List ℕ → List ℕ → History → Proposed → Result (Option Command) Rule → Type 0
JudgesChange charter day caller holder history change (Ok None) = ⊥
JudgesChange charter day caller holder history change (Ok (Some command)) =
    (command ≡ hypothetical_command holder change) × Verdict charter history day caller command None
JudgesChange charter day caller holder history change (Err rule) =
    Verdict charter history day caller (hypothetical_command holder change) (Some rule)

-- the changes at a holder would leave this history
abbrev pub HypotheticalHistory :
    Charter → ℕ → List ℕ → List ℕ → History → List Proposed → History → Type 0
HypotheticalHistory charter day caller holder = Grows (JudgesChange charter day caller holder) day caller

-- the change in this place, counted from 1, would be denied
abbrev pub IsChangeDenied :
    Charter → ℕ → List ℕ → List ℕ → History → List Proposed → Rule → ℕ → Type 0
IsChangeDenied charter day caller holder = IsDeniedAt (JudgesChange charter day caller holder) day caller
