-- Claims with their entries, as two lists have them: the claims, and the rows of the entries. How an entry is written as
-- a row depends on the claim, and on what a row says of it.
use Rattle.std.specs.Prelude.{◌≡◌, ◌≢◌, List, map, flat_map}
use Rattle.std.specs.List.{AllByRecursion}
use Rattle.sqlite_trees.specs.Tree.{IsAscending}
use Rattle.registry.specs.RoaPrefixes.{AreEntries}
use Rattle.addr.specs.declared.roa_prefix.RoaPrefix.{RoaPrefix}
use Rattle.store_tables.specs.declared.claim.Claim.{Claim}
use Rattle.store_tables.specs.declared.entry.EntryRow.{EntryRow}
use Rattle.store_tables.specs.declared.groups.Group.{Group}
use Rattle.store_tables.specs.declared.groups.OfHolder.{OfHolder}

-- the rows of the entries of a claim
abbrev pub group_rows : {C R : Type 0} → (C → RoaPrefix → R) → Group C → List R
group_rows row g = map (row g.claim) g.entries

-- Claims with their entries that have these two lists: their claims are the first, and the rows of their entries, one
-- claim after the other, are the second. The entries of each claim are those of an authorization.
pub record AreGroups {C R : Type 0} (row : C → RoaPrefix → R) (claims : List C) (rows : List R) (groups : List (Group C)) : Type 0 where
  pub same_claims : map (λ (g : Group C). g.claim) groups ≡ claims
  pub same_rows : flat_map (group_rows row) groups ≡ rows
  pub are_entries : AllByRecursion (λ (g : Group C). AreEntries g.entries) groups

-- no claims with entries have these two lists
abbrev pub HasNoGroups : {C R : Type 0} → (C → RoaPrefix → R) → List C → List R → Type 0
HasNoGroups {C} row claims rows = (groups : List (Group C)) → ¬ AreGroups row claims rows groups

-- no row is that of an entry of both claims
abbrev pub ShareNoRow : {C R : Type 0} → (C → RoaPrefix → R) → C → C → Type 0
ShareNoRow row c d = (e f : RoaPrefix) → row c e ≢ row d f

-- no row is that of entries of two of the claims
abbrev pub AllApart : {C R : Type 0} → (C → RoaPrefix → R) → List C → Type 0
AllApart row claims = IsAscending (ShareNoRow row) claims

-- the row of an entry of a claim among those of one holder, and among those of all
abbrev pub claim_entry : Claim → RoaPrefix → EntryRow
claim_entry c e = record { number = c.number; asn = c.asn; entry = e }

abbrev pub holder_entry : {C R : Type 0} → (C → RoaPrefix → R) → OfHolder C → RoaPrefix → OfHolder R
holder_entry row c e = record { holder = c.holder; row = row c.row e }
