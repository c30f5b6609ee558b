-- What it is that an authorization is amended.
use Rattle.std.specs.Prelude.{ℕ, List, ◌∷◌, None}
use Rattle.std.specs.Global.{Vec}
use Rattle.registry.specs.declared.authorization.Auth.{Auth}
use Rattle.registry.specs.declared.change.Change.TheVariants.{Holders}
use Rattle.registry.specs.declared.change.Edit.TheVariants.{Amend as AmendEdit}
use Rattle.registry.specs.declared.command.Command.TheVariants.{Amend}
use Rattle.registry.specs.History.{History}
use Rattle.registry.specs.Rows.{Carries}
use Rattle.registry.specs.Terms.{with_terms}

-- with the amended authorization in its place the rows are those of the history with the amendment
abbrev pub IsAmended : History → List ℕ → ℕ → List ℕ → ℕ → Vec ℕ → ℕ → Auth → Type 0
IsAmended history holder day caller n maxes until x =
    Carries (Holders (record { holder = holder; edit = AmendEdit (with_terms maxes.items until x) }) None)
    history (record { day = day; caller = caller; command = Amend holder n maxes until } ∷ history)
