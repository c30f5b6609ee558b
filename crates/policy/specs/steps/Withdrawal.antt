-- What it is that an authorization is withdrawn.
use Rattle.std.specs.Prelude.{ℕ, List, ◌∷◌, None}
use Rattle.registry.specs.declared.change.Change.TheVariants.{Holders}
use Rattle.registry.specs.declared.change.Edit.TheVariants.{Withdraw as WithdrawEdit}
use Rattle.registry.specs.declared.charter.Charter.{Charter}
use Rattle.registry.specs.declared.command.Command.TheVariants.{Withdraw}
use Rattle.registry.specs.History.{History}
use Rattle.registry.specs.Rows.{Carries}
use Rattle.registry.specs.Verdict.{Verdict}

-- all rules of the withdrawal hold, and with the authorization gone the rows are those of the history with the
-- withdrawal
pub record IsWithdrawn (charter : Charter) (history : History) (holder : List ℕ) (day : ℕ) (caller : List ℕ)
    (n : ℕ) : Type 0 where
  pub verdict : Verdict charter history day caller (Withdraw holder n) None
  pub carries :
      Carries (Holders (record { holder = holder; edit = WithdrawEdit n }) None) history
      (record { day = day; caller = caller; command = Withdraw holder n } ∷ history)
