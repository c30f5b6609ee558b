-- The walk along claims while the rows of entries come one at a time.
use Rattle.std.specs.Prelude.{◌≡◌, ℕ, Bool, true, false, List, [], ◌∷◌, ◌++◌, map, drop, Option, None, IsSorted}
use Rattle.std.specs.List.{AllByRecursion}
use Rattle.sqlite.specs.Effect.{Database}
use Rattle.sqlite_value.specs.Order.{Row}
use Rattle.addr.specs.declared.roa_prefix.RoaPrefix.{RoaPrefix}
use Rattle.store_tables.specs.declared.claim.Claim.{Claim}
use Rattle.store_tables.specs.declared.entry.EntryRow.{EntryRow}
use Rattle.store_tables.specs.declared.groups.Group.{Group}
use Rattle.store_tables.specs.declared.groups.OfHolder.{OfHolder}
use Rattle.store_tables.specs.Decode.{EntryRowFits, NamedFits, first_columns}
use Rattle.store_tables.specs.Groups.{AllApart, claim_entry, holder_entry}
use Rattle.store_tables.specs.Tables.{entry}
use Rattle.store_tables.specs.steps.Groups.{entry_if, holder_entry_if}
use Rattle.store_tables.proofs.Grouping.{Walked}
use Rattle.store_tables.proofs.GroupOrder.{entry_row_cmp, of_holder_cmp}
use Rattle.store_open.specs.TablesRead.{ShowsSome}
use Rattle.store_open.specs.steps.Numbered.{AreRead, shown_in}
use Rattle.store_open.specs.steps.Opened.{MakeAuths, entry_places, show_entry}

-- the entry of the first of the claims that a row is, if it is one
abbrev pub first_claim_entry : List (OfHolder Claim) → OfHolder EntryRow → Option RoaPrefix
first_claim_entry [] r = None
first_claim_entry (c ∷ claims) r = holder_entry_if entry_if c r

-- the rows are those of these entries of the first of the claims
abbrev pub AreOfFirst : List (OfHolder Claim) → List RoaPrefix → List (OfHolder EntryRow) → Type 0
AreOfFirst [] found held = held ≡ []
AreOfFirst (c ∷ claims) found held = held ≡ map (holder_entry claim_entry c) found

-- After these entries these claims are left, and the found entries are of the first of them,
-- whatever entries come then.
pub record WalkStands (claims : List (OfHolder Claim)) (entries : List (OfHolder EntryRow)) (left : List (OfHolder Claim)) (found : List RoaPrefix) : Type 0
  where
    pub held : List (OfHolder EntryRow)
    pub of_first : AreOfFirst left found held
    pub walked :
        (rest : List (OfHolder EntryRow)) → (groups : List (Group (OfHolder Claim)))
        × Walked (holder_entry claim_entry) claims (entries ++ rest) groups left (held ++ rest)

-- whatever entries come after these, the claims make no authorizations with them
abbrev pub NeverMake : List (OfHolder Claim) → List (OfHolder EntryRow) → Type 0
NeverMake claims entries =
    (rest : List (OfHolder EntryRow)) → AllApart (holder_entry claim_entry) claims
    → ¬ MakeAuths claims (entries ++ rest)

-- this is the walk after these entries, or no authorizations come of it
pub record WalkGoesOn (claims : List (OfHolder Claim)) (entries : List (OfHolder EntryRow)) (passed : ℕ) (found : List RoaPrefix) (fits : Bool) : Type 0
  where
    pub so_far : fits ≡ true → WalkStands claims entries (drop passed claims) found
    pub never : fits ≡ false → NeverMake claims entries

-- the entries that rows show
pub record ShowEntries (rows : List Row) (entries : List (OfHolder EntryRow)) : Type 0 where
  pub fit : AllByRecursion (NamedFits EntryRowFits) entries
  pub shown : map (first_columns 7) rows ≡ map show_entry entries

-- this is the walk after these rows, or no authorizations come of it, or some row shows no entry
pub record JoinsRows (claims : List (OfHolder Claim)) (rows : List Row) (passed : ℕ) (found : List RoaPrefix) (fits : Bool) : Type 0
  where
    pub so_far :
        fits ≡ true → (entries : List (OfHolder EntryRow)) × ShowEntries rows entries
        × WalkStands claims entries (drop passed claims) found
    pub never :
        fits ≡ false → (entries : List (OfHolder EntryRow)) → ShowEntries rows entries
        → NeverMake claims entries

-- each row shows an entry
abbrev pub EachShowsEntry : List Row → Type 0
EachShowsEntry = AllByRecursion (ShowsSome show_entry (NamedFits EntryRowFits))

-- the rows make authorizations with the claims
abbrev pub MakeOfRows : List (OfHolder Claim) → List Row → Type 0
MakeOfRows claims rows =
    (entries : List (OfHolder EntryRow)) × ShowEntries rows entries × MakeAuths claims entries

-- some row shows no entry, or claims that are apart make no authorizations with the rows
abbrev pub MakeNoneOfRows : List (OfHolder Claim) → List Row → Type 0
MakeNoneOfRows claims rows =
    EachShowsEntry (map (first_columns 7) rows) → (entries : List (OfHolder EntryRow))
    × ShowEntries rows entries
    × (AllApart (holder_entry claim_entry) claims → ¬ MakeAuths claims entries)

-- what the table of entries shows
abbrev pub shown_entries : Database → List Row
shown_entries = shown_in entry.tree entry_places

abbrev pub EntriesRead : Database → List (OfHolder EntryRow) → Type 0
EntriesRead db = AreRead show_entry (NamedFits EntryRowFits) (shown_entries db)

-- the claims make authorizations with the entries of the table
abbrev pub MakeOfTable : List (OfHolder Claim) → Database → Type 0
MakeOfTable claims db =
    (entries : List (OfHolder EntryRow)) × EntriesRead db entries × MakeAuths claims entries

-- some row of the table shows no entry, or claims that are apart make no authorizations with its
-- entries in order
abbrev pub MakeNoneOfTable : List (OfHolder Claim) → Database → Type 0
MakeNoneOfTable claims db =
    EachShowsEntry (shown_entries db) → (entries : List (OfHolder EntryRow))
    × EntriesRead db entries × IsSorted (of_holder_cmp entry_row_cmp) entries
    × (AllApart (holder_entry claim_entry) claims → ¬ MakeAuths claims entries)
