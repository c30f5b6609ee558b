-- What is held of the claims while the rows of their entries are read.
use Rattle.std.specs.Prelude.{◌≡◌, Bool, true, false, cond, ◌&&◌, ◌==◌, List, [], ◌∷◌, ◌++◌, map, ℤ, Option, Some, None, nat_eq, IsSorted}
use Rattle.std.specs.Cmp.Lexicographic.{pointwise, slice_cmp}
use Rattle.std.specs.Ordering.{nat_cmp, ordering_then}
use Rattle.std.specs.declared.cmp.Ordering.{Ordering}
use Rattle.sqlite.specs.Effect.{Database}
use Rattle.sqlite_value.specs.Order.{Row}
use Rattle.sqlite_rules.specs.Lists.{Has}
use Rattle.addr.specs.declared.roa_prefix.RoaPrefix.{RoaPrefix}
use Rattle.store_tables.specs.declared.claim.Claim.{Claim}
use Rattle.store_tables.specs.declared.entry.EntryRow.{EntryRow}
use Rattle.store_tables.specs.declared.groups.OfHolder.{OfHolder}
use Rattle.store_tables.specs.Decode.{ClaimFits, NamedFits, ShowsNone, first_columns}
use Rattle.store_tables.specs.Tables.{claim}
use Rattle.store_tables.proofs.GroupOrder.{claim_cmp, of_holder_cmp}
use Rattle.store_open.specs.declared.key.ClaimKey.{ClaimKey}
use Rattle.store_open.specs.steps.Numbered.{AreRead, AreTaken, shown_in}
use Rattle.store_open.specs.steps.Opened.{claim_places, show_claim}

abbrev pub key_of : OfHolder Claim → ClaimKey
key_of c = record { holder = c.holder; number = c.row.number; asn = c.row.asn }

-- the entry of a claim that has the key that a row is, if it is one
abbrev pub key_entry_if : ClaimKey → OfHolder EntryRow → Option RoaPrefix
key_entry_if k r =
    cond (pointwise nat_eq k.holder r.holder) (cond ((k.number == r.row.number) && (k.asn.0 == r.row.asn.0)) (Some r.row.entry) None) None

-- the same of the first of the keys
abbrev pub first_key_entry : List ClaimKey → OfHolder EntryRow → Option RoaPrefix
first_key_entry [] r = None
first_key_entry (k ∷ keys) r = key_entry_if k r

-- the order of claims
abbrev pub key_cmp : ClaimKey → ClaimKey → Ordering
key_cmp k l = ordering_then (slice_cmp nat_cmp k.holder l.holder) (nat_cmp k.number l.number)

-- the keys are those of claims that are so
abbrev pub AreOfSome : (List (OfHolder Claim) → Type 0) → List ClaimKey → Type 0
AreOfSome So keys = (claims : List (OfHolder Claim)) × (map key_of claims ≡ keys) × So claims

-- all claims that have these keys are so
abbrev pub AreOfAll : (List (OfHolder Claim) → Type 0) → List ClaimKey → Type 0
AreOfAll So keys = (claims : List (OfHolder Claim)) → map key_of claims ≡ keys → So claims

-- ---- the claims that rows show

-- the row shows a claim, whose key comes after the others
abbrev pub ShowsKey : Row → List ClaimKey → List ClaimKey → Type 0
ShowsKey row before after =
    (c : OfHolder Claim) × NamedFits ClaimFits c × (first_columns 5 row ≡ show_claim c)
    × (after ≡ before ++ key_of c ∷ [])

abbrev pub ShowsNoClaim : Row → Type 0
ShowsNoClaim row = ShowsNone show_claim (NamedFits ClaimFits) (first_columns 5 row)

-- the claims that rows show, whose last integer this is
abbrev pub AreTakenClaims : List Row → Option ℤ → List (OfHolder Claim) → Type 0
AreTakenClaims rows last claims = AreTaken show_claim (NamedFits ClaimFits) 5 rows claims last

-- each row showed a claim, and these are their keys, or some row showed none
pub record Collects (rows : List Row) (keys : List ClaimKey) (last : Option ℤ) (is_read : Bool) : Type 0 where
  pub read : is_read ≡ true → AreOfSome (AreTakenClaims rows last) keys
  pub unread : is_read ≡ false → (row : Row) × Has rows row × ShowsNoClaim row

-- the claims are those of the table
abbrev pub ClaimsRead : Database → List (OfHolder Claim) → Type 0
ClaimsRead db = AreRead show_claim (NamedFits ClaimFits) (shown_in claim.tree claim_places db)

abbrev pub ClaimsInOrder : Database → List (OfHolder Claim) → Type 0
ClaimsInOrder db claims = ClaimsRead db claims × IsSorted (of_holder_cmp claim_cmp) claims
