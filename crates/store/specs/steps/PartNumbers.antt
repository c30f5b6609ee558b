-- The numbers by which authorizations are loaded.
use Rattle.std.specs.Prelude.{◌≤◌, ◌==◌, ◌&&◌, ℕ, Bool, List, filter, IsPermutation}
use Rattle.std.specs.List.{list_any}
use Rattle.sqlite_trees.specs.Tree.{IsAscending}
use Rattle.addr.specs.declared.asn.Asn.{Asn}
use Rattle.addr.specs.declared.prefix.Prefix.{Prefix}
use Rattle.registry.specs.declared.authorization.Auth.{Auth}
use Rattle.addr.specs.declared.roa_prefix.RoaPrefix.{RoaPrefix}
use Rattle.registry.specs.declared.command.Proposed.{Proposed}
use Rattle.registry.specs.declared.command.Proposed.TheVariants.{Create, Withdraw}
use Rattle.registry.specs.Terms.{gives_some, terms_overlap}

abbrev pub has_number : List ℕ → ℕ → Bool
has_number numbers n = list_any (λ m. n == m) numbers

-- an authorization of the number gives the AS with an entry of the list
abbrev pub gives_numbered : Asn → List RoaPrefix → List Auth → ℕ → Bool
gives_numbered asn es auths n = list_any (λ x. (n == x.number) && gives_some x asn es) auths

-- the rules of the change look for an authorization of the number
abbrev pub asks_for : Proposed → List Auth → ℕ → Bool
asks_for (Create terms) auths n = gives_numbered terms.asn terms.entries auths n
asks_for (Withdraw m) auths n = n == m

-- the rules of some of the changes do
abbrev pub some_asks_for : List Proposed → List Auth → ℕ → Bool
some_asks_for changes auths n = list_any (λ change. asks_for change auths n) changes

-- an authorization of the number shares an address with the prefix
abbrev pub overlaps_numbered : Prefix → List Auth → ℕ → Bool
overlaps_numbered p auths n = list_any (λ x. (n == x.number) && terms_overlap x p) auths

-- the authorizations of these numbers, by number
pub record AreOfNumbers (numbers : List ℕ) (auths loaded : List Auth) : Type 0 where
  pub same : IsPermutation (filter (λ x. has_number numbers x.number) auths) loaded
  pub rising : IsAscending (λ (x y : Auth). x.number ≤ y.number) loaded
