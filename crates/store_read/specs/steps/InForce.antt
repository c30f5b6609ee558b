-- Steps of reading: the authorizations of all holders that are in force on a day. The keys of their claims are taken
-- one at a time, and then of the payloads of all entries those of such a claim.
use Rattle.std.specs.Prelude.{◌≡◌, ℕ, ◌≤◌, Bool, true, false, ◌&&◌, List, [], ◌∷◌, ◌++◌, map, filter, Contains, Some, IsPermutation, IsSorted}
use Rattle.std.specs.List.{list_any}
use Rattle.std.specs.declared.cmp.Ordering.{Ordering}
use Rattle.std.specs.Ordering.{is_eq, then_cmp}
use Rattle.sqlite.specs.Effect.{Database}
use Rattle.sqlite_value.specs.declared.keys.Collation.TheVariants.{Binary}
use Rattle.sqlite_value.specs.declared.value.Value.TheVariants.{Text}
use Rattle.sqlite_value.specs.Order.{Row, column}
use Rattle.sqlite_sql.specs.declared.ops.CompareOp.TheVariants.{Le, Ge}
use Rattle.sqlite_sql.specs.declared.ops.BinaryOp.TheVariants.{Compare}
use Rattle.sqlite_sql.specs.Ops.{binary, is_true}
use Rattle.sqlite_rules.specs.Lists.{Has}
use Rattle.addr.specs.declared.vrp.Vrp.{Vrp}
use Rattle.registry.specs.declared.authorization.Auth.{Auth}
use Rattle.addr.specs.declared.roa_prefix.RoaPrefix.{RoaPrefix}
use Rattle.registry.specs.Rows.{Rows}
use Rattle.registry.specs.RowsOfAll.{AllRows}
use Rattle.registry.specs.Values.{VrpFits}
use Rattle.store_tables.specs.Cells.{number_cell, prefix_cells, vrp_cells}
use Rattle.store_tables.specs.Decode.{ShowsNone, first_columns}
use Rattle.store_tables.specs.Tables.{claim, entry, columns, contents}
use Rattle.store_transactions.specs.Laws.{number_columns, payload_columns}
use Rattle.store_read.specs.declared.across.ClaimKey.{ClaimKey}
use Rattle.store_read.specs.steps.Queries.{by_column}

-- ---- what the two queries show

-- of a claim its number, AS and days, and its holder
abbrev pub claim_columns_read : Row → Row
claim_columns_read = columns (1 ∷ 2 ∷ 3 ∷ 4 ∷ 0 ∷ [])

-- of an entry its payload, its holder and the number of its claim
abbrev pub entry_columns_read : Row → Row
entry_columns_read = columns (2 ∷ 3 ∷ 4 ∷ 5 ∷ 6 ∷ 0 ∷ 1 ∷ [])

-- the payload of what is shown of an entry
abbrev pub payload_of : Row → Row
payload_of = first_columns 5

-- the holder and the number in what is shown of a claim, and of an entry
abbrev pub claim_key : Row → Row
claim_key = columns (4 ∷ 0 ∷ [])

abbrev pub payload_key : Row → Row
payload_key = columns (5 ∷ 6 ∷ [])

abbrev pub key_cells : ClaimKey → Row
key_cells k = Text k.holder ∷ number_cell k.number ∷ []

-- by the holder, then by the number
abbrev pub key_order : Row → Row → Ordering
key_order = then_cmp (by_column 0) (by_column 1)

abbrev pub ClaimsRise : List ClaimKey → Type 0
ClaimsRise = IsSorted (λ c d. key_order (key_cells c) (key_cells d))

-- one of the keys is the holder and the number of the payload
abbrev pub is_claimed : List Row → Row → Bool
is_claimed keys row = list_any (λ k. is_eq (key_order k (payload_key row))) keys

-- ---- the rows of the tables

-- the row of a claim that is in force on the day
abbrev pub is_open_on : ℕ → Row → Bool
is_open_on day c =
    is_true (binary (Compare Le Binary) (column c 3) (number_cell day))
    && (is_true (binary (Compare Ge Binary) (column c 4) (number_cell day)) && true)

-- the keys of those
abbrev pub keys_on : ℕ → Database → List Row
keys_on day db = map number_columns (filter (is_open_on day) (contents (db.trees claim.tree)))

abbrev pub FindsClaims : ℕ → Database → List ClaimKey → Type 0
FindsClaims day db claims = IsPermutation (keys_on day db) (map key_cells claims)

abbrev pub FindsPayloads : Database → List Row → Type 0
FindsPayloads db rows = IsPermutation (map entry_columns_read (contents (db.trees entry.tree))) rows

-- the row of an entry whose claim is in force on the day
abbrev pub is_claimed_on : ℕ → Database → Row → Bool
is_claimed_on day db c = is_claimed (keys_on day db) (entry_columns_read c)

abbrev pub FindsInForce : ℕ → Database → List Row → Type 0
FindsInForce day db rows =
    IsPermutation (map payload_columns (filter (is_claimed_on day db) (contents (db.trees entry.tree)))) rows

-- ---- payloads that are taken one at a time

-- the payloads that are of one of the claims
abbrev pub of_claims : List ClaimKey → List Row → List Row
of_claims claims rows = map payload_of (filter (is_claimed (map key_cells claims)) rows)

-- each payload shows a VRP, and these are they, or some payload shows none
pub record ShowVrps (payloads : List Row) (vrps : List Vrp) (is_read : Bool) : Type 0 where
  pub read : is_read ≡ true → payloads ≡ map vrp_cells vrps
  pub unread : is_read ≡ false → (row : Row) × Has payloads row × ShowsNone vrp_cells VrpFits row

-- ---- the authorizations

-- the AS of an authorization, and the prefix of an entry of it with its maxLength
abbrev pub payload_cells : Auth → RoaPrefix → Row
payload_cells x e = number_cell x.asn.0 ∷ prefix_cells e.prefix ++ number_cell e.max ∷ []

-- an authorization of some holder is in force on the day, and this is the payload of an entry of it
abbrev pub IsPayloadOn : AllRows → ℕ → Row → Type 0
IsPayloadOn rows day v =
    (h : List ℕ) × (r : Rows) × (x : Auth) × (e : RoaPrefix)
    × (rows.of_holder h ≡ Some r) × Contains r.auths x × Contains x.entries e
    × (x.from ≤ day) × (day ≤ x.until) × (v ≡ payload_cells x e)
