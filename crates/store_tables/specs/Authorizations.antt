-- Authorizations as the tables have them: a claim, and the rows of its entries.
use Rattle.std.specs.Prelude.{◌≡◌, ℕ, ◌<◌, List, map, flat_map, Option, Some}
use Rattle.std.specs.List.{AllByRecursion}
use Rattle.sqlite_trees.specs.Tree.{IsAscending}
use Rattle.registry.specs.Rows.{Rows}
use Rattle.registry.specs.RoaPrefixes.{AreEntries}
use Rattle.registry.specs.declared.authorization.Auth.{Auth}
use Rattle.store_tables.specs.declared.claim.Claim.{Claim}
use Rattle.store_tables.specs.declared.entry.EntryRow.{EntryRow}
use Rattle.store_tables.specs.Groups.{claim_entry}

-- an authorization without its entries
abbrev pub claim_of : Auth → Claim
claim_of x = record { number = x.number; asn = x.asn; from = x.from; until = x.until }

abbrev pub entry_rows_of : Auth → List EntryRow
entry_rows_of x = map (claim_entry (claim_of x)) x.entries

-- each has at least one entry, no more than it may have, and each prefix once
abbrev pub EachHasEntries : List Auth → Type 0
EachHasEntries auths = AllByRecursion (λ x. AreEntries x.entries) auths

-- the authorizations that have these claims, and the rows of whose entries, one after the other, are these
pub record AreAuths (claims : List Claim) (rows : List EntryRow) (auths : List Auth) : Type 0 where
  pub same_claims : map claim_of auths ≡ claims
  pub same_rows : flat_map entry_rows_of auths ≡ rows
  pub have_entries : EachHasEntries auths

-- no authorizations have them
abbrev pub HasNoAuths : List Claim → List EntryRow → Type 0
HasNoAuths claims rows = (auths : List Auth) → ¬ AreAuths claims rows auths

-- the claims are by rising number, so no number comes twice
abbrev pub NumbersRise : List Claim → Type 0
NumbersRise claims = IsAscending (λ (c d : Claim). c.number < d.number) claims

-- so have those of each holder
abbrev pub HaveEntries : (List ℕ → Option Rows) → Type 0
HaveEntries rows = (h : List ℕ) (r : Rows) → rows h ≡ Some r → EachHasEntries r.auths
