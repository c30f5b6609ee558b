-- Which caller may do what. A permission for a prefix comes from one grant.
use Rattle.std.specs.Prelude.{ℕ, Bool, true, false, ◌&&◌, nat_le, List}
use Rattle.std.specs.List.{list_all, list_any}
use Rattle.addr.specs.Address.{contains}
use Rattle.addr.specs.declared.prefix.Prefix.{Prefix}
use Rattle.registry.specs.declared.authorization.Auth.{Auth}
use Rattle.addr.specs.declared.roa_prefix.RoaPrefix.{RoaPrefix}
use Rattle.registry.specs.declared.grant.Granted.{Granted}
use Rattle.registry.specs.declared.grant.Role.{Role}
use Rattle.registry.specs.declared.grant.Role.TheVariants.{Manager, Clerk, Auditor}
use Rattle.registry.specs.declared.grant.Scope.{Scope}
use Rattle.registry.specs.declared.grant.Scope.TheVariants.{All, Only}
use Rattle.registry.specs.declared.grant.Access.{Access}
use Rattle.registry.specs.declared.grant.Access.TheVariants.{Manage, Alter, Look}
use Rattle.registry.specs.History.{same_name}

-- the roles that give an access: managers manage grants, managers and clerks alter authorizations,
-- and all three look at them
abbrev pub allowed_roles : Access → Role → Bool
allowed_roles Manage Manager = true
allowed_roles Manage Clerk = false
allowed_roles Manage Auditor = false
allowed_roles Alter Manager = true
allowed_roles Alter Clerk = true
allowed_roles Alter Auditor = false
allowed_roles Look Manager = true
allowed_roles Look Clerk = true
allowed_roles Look Auditor = true

-- the scope has the prefix
abbrev pub scope_has : Scope → Prefix → Bool
scope_has All p = true
scope_has (Only q) p = contains q p

-- the grant, not revoked, is current on a day
abbrev pub is_current : ℕ → Granted → Bool
is_current day g = nat_le day g.until

-- the grant is current, the caller's, and of a role with the access
abbrev pub gives_access : ℕ → List ℕ → Access → Granted → Bool
gives_access day caller access g = same_name g.caller caller && (is_current day g && allowed_roles access g.role)

-- some of the grants gives the caller the access, whatever its scope
abbrev pub has_access : List Granted → ℕ → List ℕ → Access → Bool
has_access grants day caller access = list_any (λ g. gives_access day caller access g) grants

-- some one of the grants gives the caller the access and has the prefix in its scope
abbrev pub is_permitted : List Granted → ℕ → List ℕ → Access → Prefix → Bool
is_permitted grants day caller access p =
    list_any (λ g. gives_access day caller access g && scope_has g.scope p) grants

-- the caller is permitted each prefix of the entries
abbrev pub are_permitted : List Granted → ℕ → List ℕ → Access → List RoaPrefix → Bool
are_permitted grants day caller access es = list_all (λ e. is_permitted grants day caller access e.prefix) es

-- the caller is permitted each prefix of the terms
abbrev pub is_permitted_terms : List Granted → ℕ → List ℕ → Access → Auth → Bool
is_permitted_terms grants day caller access x = are_permitted grants day caller access x.entries
