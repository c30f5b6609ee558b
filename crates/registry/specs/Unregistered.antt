-- What a holder has that is not registered.
use Rattle.std.specs.Prelude.{◌≡◌, ℕ, false, List, []}
use Rattle.addr.specs.Address.{Address}
use Rattle.registry.specs.declared.charter.Charter.{Charter}
use Rattle.registry.specs.History.{History, is_registered}
use Rattle.registry.specs.Resources.{resource_holder, is_held_by}
use Rattle.registry.specs.Terms.{grant_terms, grants_made, authorizations_made, authorization_terms}
use Rattle.registry.specs.Verdict.{IsLegal}

-- it holds no address, it has no grant and no authorization, and none was ever made at it
pub record HasNothing (history : History) (h : List ℕ) : Type 0 where
  pub holders : (a : Address) → is_held_by h (resource_holder history a) ≡ false
  pub grants : grant_terms history h ≡ []
  pub granted : grants_made history h ≡ 0
  pub terms : authorization_terms history h ≡ []
  pub created : authorizations_made history h ≡ 0

abbrev pub UnregisteredHaveNothing : Type 0
UnregisteredHaveNothing =
    (charter : Charter) (history : History) (h : List ℕ) → IsLegal charter history
    → is_registered history h ≡ false → HasNothing history h
