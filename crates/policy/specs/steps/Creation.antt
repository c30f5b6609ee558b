-- What an authorization is that a create of these terms makes.
use Rattle.std.specs.Prelude.{◌≡◌, ℕ, ◌+◌, List, ◌∷◌, None}
use Rattle.registry.specs.declared.authorization.Auth.{Auth}
use Rattle.registry.specs.declared.authorization.AuthTerms.{AuthTerms}
use Rattle.registry.specs.declared.change.Change.TheVariants.{Holders}
use Rattle.registry.specs.declared.change.Edit.TheVariants.{Create as CreateEdit}
use Rattle.registry.specs.declared.charter.Charter.{Charter}
use Rattle.registry.specs.declared.command.Command.TheVariants.{Create}
use Rattle.registry.specs.History.{History}
use Rattle.registry.specs.Rows.{Carries}
use Rattle.registry.specs.Terms.{authorizations_made}
use Rattle.registry.specs.Verdict.{Verdict}

-- all rules of the create hold, the authorization has the next number, and with it come the rows of the history
-- with the create
pub record IsCreated (charter : Charter) (history : History) (holder : List ℕ) (day : ℕ) (caller : List ℕ)
    (t : AuthTerms) (x : Auth) : Type 0 where
  pub verdict : Verdict charter history day caller (Create holder t) None
  pub number : x.number ≡ authorizations_made history holder + 1
  pub carries :
      Carries (Holders (record { holder = holder; edit = CreateEdit x }) None) history
      (record { day = day; caller = caller; command = Create holder t } ∷ history)
