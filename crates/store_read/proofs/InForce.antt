-- The authorizations of all holders that are in force on a day.
use Rattle.store_read.proofs.Vocabulary.{◌≡◌, ◌↔◌, ℕ, pos, true, false, ◌&&◌, List, [], ◌∷◌, ◌++◌, map, filter, drop, Some, Contains, nat_le, int_cmp, is_eq, Ordering, Less, Equal, Greater, refl, sym, ap, ap₂, subst, ◌∙◌, arith, IsPermutation, ordering_then, and_parts, and_from, leb-true, le-leb, tied_itself, ints, IsPermutation-sym, IsPermutation-map, list_any-IsPermutation, map-append, Database, IsDatabase, Reads, State, Key, Null, Text, Row, column, value_cmp, value_cmp-Int, then-Equal, Le, Ge, Term, eval_all, Command, Has, all_from, has_filtered, has_kept, has_contained, contains_had, some_has, some_from, mapped_has, has_mapped, map-map, filter-map, filter_all, IsPermutation-filter, IsPermutation-same, at_ints, then_term, last_term, Auth, RoaPrefix, Rows, AllRows, Claim, SELECT_CLAIMS_IN_FORCE, EntryRow, SELECT_PAYLOADS, claim_of, number_cell, claim_cells, claim_row, entry_row, named_cells, first_columns, claim_entry, claim, entry, desk_tables, contents, IsTree, HoldsPart, claim_part, entry_part, claims_in_force_tests, claims_in_force_is, payloads_is, name_of_text, picks, permuted, sorted, has_permuted, of_some, in_table, has_entry_row, entry_row_of, upwards, payload_columns, ClaimsDiffer, AnswersSelect, AnswersWith, shown_at, shown_columns, ClaimKey, claim_columns_read, entry_columns_read, payload_of, claim_key, key_cells, payload_key, key_order, is_claimed, ClaimsRise, is_open_on, keys_on, is_claimed_on, FindsClaims, FindsPayloads, FindsInForce, IsPayloadOn, of_claims, EachRows}
use Rattle.registry.proofs.Names.{same_name-true}
use Rattle.store_tables.specs.declared.groups.OfHolder.{OfHolder}
use Rattle.store_tables.proofs.Once.{two_are_one, number_columns, NumbersDiffer}
use Rattle.store_read.proofs.Claimed.{key_total, keys_rise}
use Rattle.store_read.proofs.Finding.{of_contents}

-- ---- the claims

abbrev claim_places : List ℕ
claim_places = 1 ∷ 2 ∷ 3 ∷ 4 ∷ 0 ∷ []

abbrev claim_order : List (Term × Key)
claim_order = upwards 1 ∷ upwards 2 ∷ []

columns_alone : (day : ℕ) (r : Row) → picks (number_cell day ∷ []) claims_in_force_tests r ≡ is_open_on day (drop 1 r)
columns_alone day [] = refl
columns_alone day (v ∷ r) = refl

ranked : (x y : Row) → ordering_then (value_cmp (column x 4) (column y 4)) (ordering_then (value_cmp (column x 0) (column y 0)) Equal) ≡ key_order (claim_key x) (claim_key y)
ranked x y = ap (ordering_then (value_cmp (column x 4) (column y 4))) (then-Equal _)

-- a claim more is taken
pub one_key_more : (claims now : List ClaimKey) (rows : List Row) (row : Row) (x : OfHolder Claim) → map key_cells claims ≡ map claim_key rows → first_columns 5 row ≡ named_cells claim_cells x
    → now ≡ claims ++ record { holder = x.holder; number = x.row.number } ∷ [] → map key_cells now ≡ map claim_key (rows ++ row ∷ [])
one_key_more claims now rows row x was shown more =
    ap (map key_cells) more ∙ map-append key_cells claims _ ∙ ap₂ ◌++◌ was (ap (λ c. claim_key c ∷ []) (sym shown)) ∙ sym (map-append claim_key rows (row ∷ []))

-- what is shown of the claims in force
abbrev claims_on : ℕ → Database → List Row
claims_on day db = map claim_columns_read (filter (is_open_on day) (contents (db.trees claim.tree)))

module _ (day : ℕ) (db : Database) (claims : List ClaimKey) (rows : List Row) (taken : map key_cells claims ≡ map claim_key rows) (answered : AnswersWith SELECT_CLAIMS_IN_FORCE.now (number_cell day ∷ []) db rows) where
  abbrev params : Row
  params = number_cell day ∷ []

  pub finds_claims : FindsClaims day db claims
  finds_claims =
      let read = subst (λ (k : Command). Reads k db params rows) (claims_in_force_is.is db.schema) answered in
      let same = of_contents (λ r. eval_all (shown_at claim_places) (params ∷ r ∷ [])) claim_columns_read (picks params claims_in_force_tests) (is_open_on day) (shown_columns claim_places params) (columns_alone day) (db.trees claim.tree) in
      let found = subst (λ l. IsPermutation l rows) same (permuted claim.tree claims_in_force_tests (shown_at claim_places) claim_order db.trees params rows (read.answer Null)) in
      subst (λ l. IsPermutation l (map key_cells claims)) (map-map claim_key claim_columns_read _)
      (subst (IsPermutation (map claim_key (claims_on day db))) (sym taken) (IsPermutation-map claim_key _ _ found))

  pub claims_rise : ClaimsRise claims
  claims_rise =
      let read = subst (λ (k : Command). Reads k db params rows) (claims_in_force_is.is db.schema) answered in
      keys_rise claims rows taken
      (sorted claim.tree claims_in_force_tests (shown_at claim_places) claim_order db.trees params rows (4 ∷ 0 ∷ []) (λ c d. key_order (claim_key c) (claim_key d)) (λ r. refl) ranked (read.answer Null))

-- ---- the payloads

abbrev entry_places : List ℕ
entry_places = 2 ∷ 3 ∷ 4 ∷ 5 ∷ 6 ∷ 0 ∷ 1 ∷ []

finds_payloads : (db : Database) (rows : List Row) → AnswersSelect SELECT_PAYLOADS.now db rows → FindsPayloads db rows
finds_payloads db rows answered =
    let tree = db.trees entry.tree in
    let answer = (subst (λ (k : Command). Reads k db [] rows) (payloads_is.is db.schema) answered).answer Null in
    let same = of_contents (λ r. eval_all (shown_at entry_places) ([] ∷ r ∷ [])) entry_columns_read (picks [] []) (λ _. true) (shown_columns entry_places []) (λ _. refl) tree in
    let every : filter (λ _. true) (contents tree) ≡ contents tree = filter_all _ (contents tree) (all_from _ (contents tree) (λ _ _. refl)) in
    subst (λ l. IsPermutation l rows) (same ∙ ap (map entry_columns_read) every) (permuted entry.tree [] (shown_at entry_places) [] db.trees [] rows answer)

-- the payloads that are of one of the claims are those of the entries whose claims are in force
claimed_found : (day : ℕ) (db : Database) (claims : List ClaimKey) (payloads : List Row) → FindsClaims day db claims → FindsPayloads db payloads → FindsInForce day db (of_claims claims payloads)
claimed_found day db claims payloads found of_entries =
    let table = contents (db.trees entry.tree) in
    let keys = map key_cells claims in
    let same : filter (is_claimed keys) (map entry_columns_read table) ≡ map entry_columns_read (filter (is_claimed_on day db) table) =
    filter-map (is_claimed keys) entry_columns_read table
    ∙ (λ i. map entry_columns_read (filter (λ c. sym (list_any-IsPermutation (λ k. is_eq (key_order k (payload_key (entry_columns_read c)))) (keys_on day db) keys found) i) table)) in
    let shown = IsPermutation-map payload_of _ _ (IsPermutation-filter (is_claimed keys) _ _ of_entries) in
    subst (λ l. IsPermutation l (map payload_of (filter (is_claimed keys) payloads))) (ap (map payload_of) same ∙ map-map payload_of entry_columns_read _) shown

pub taken_found : (day : ℕ) (db : Database) (claims : List ClaimKey) (payloads : List Row) → FindsClaims day db claims → AnswersSelect SELECT_PAYLOADS.now db payloads → FindsInForce day db (of_claims claims payloads)
taken_found day db claims payloads found answered = claimed_found day db claims payloads found (finds_payloads db payloads answered)

-- ---- what they are of the typed rows

-- no two claims of a desk have the same holder and number
numbers_differ : ClaimsDiffer → (db : Database) → IsDatabase db → db.schema.tables ≡ desk_tables → IsTree (db.trees claim.tree) → NumbersDiffer db.trees
numbers_differ differ db sound tables whole =
    let table = contents (db.trees claim.tree) in
    let every : filter (λ _. true) table ≡ table = filter_all _ table (all_from _ table (λ _ _. refl)) in
    differ db sound tables whole (λ _. true) (map number_columns table) (IsPermutation-same _ _ (ap (map number_columns) every))

open_is : (day : ℕ) (h : List ℕ) (c : Claim) → is_open_on day (claim_row h c) ≡ (nat_le c.from day && nat_le day c.until)
open_is day h c = then_term (at_ints false Le (pos c.from) (pos day)) (last_term (at_ints false Ge (pos c.until) (pos day)))

both_tie : (a b : Ordering) → is_eq (ordering_then a b) ≡ true → (is_eq a ≡ true) × (is_eq b ≡ true)
both_tie Less b is = absurd cc
both_tie Equal b is = (refl, is)
both_tie Greater b is = absurd cc

number_is : (m n : ℕ) → is_eq (value_cmp (number_cell m) (number_cell n)) ≡ true → m ≡ n
number_is m n is = let same : is_eq (int_cmp (pos m) (pos n)) ≡ true = sym (ap is_eq (value_cmp-Int (pos m) (pos n))) ∙ is in grind (arith, ints)

-- a claim and an entry, as they are shown, that have the same holder and number
abbrev HaveOneKey : Row → Row → Type 0
HaveOneKey c d = is_eq (key_order (number_columns c) (payload_key (entry_columns_read d))) ≡ true

one_key : (k h : List ℕ) (c : Claim) (d : EntryRow) → HaveOneKey (claim_row k c) (entry_row h d) → (k ≡ h) × (c.number ≡ d.number)
one_key k h c d is =
    let parts = both_tie (value_cmp (Text k) (Text h)) (value_cmp (number_cell c.number) (number_cell d.number)) is in
    (same_name-true k h (sym (name_of_text h k) ∙ parts.0), number_is c.number d.number parts.1)

module _ (day : ℕ) (all : AllRows) (db : Database) (rows : List Row) (holds_claims : HoldsPart claim_part all.of_holder (contents (db.trees claim_part.tree))) (holds_entries : HoldsPart entry_part all.of_holder (contents (db.trees entry_part.tree)))
    (differ : NumbersDiffer db.trees) (found : FindsInForce day db rows) where
  abbrev claims : List Row
  claims = contents (db.trees claim_part.tree)

  abbrev entries : List Row
  entries = contents (db.trees entry_part.tree)

  -- the row of a claim that has the key of an entry is that of the entry's authorization
  one_claim : (c : Row) → Has claims c → (h : List ℕ) (r : Rows) (x : Auth) (e : RoaPrefix) → all.of_holder h ≡ Some r → Has r.auths x → HaveOneKey c (entry_row h (claim_entry (claim_of x) e)) → c ≡ claim_row h (claim_of x)
  one_claim c has h r x e of in_r key =
      let (k, s, also, its) = of_some claim_part all.of_holder claims holds_claims c has in
      let (y, in_s, claim_is) = has_mapped (λ z. claim_row k (claim_of z)) s.auths c its in
      let alike = one_key k h (claim_of y) (claim_entry (claim_of x) e) (subst (λ d. HaveOneKey d (entry_row h (claim_entry (claim_of x) e))) claim_is key) in
      let numbers : number_columns (claim_row k (claim_of y)) ≡ number_columns (claim_row h (claim_of x)) = λ i. Text (alike.0 i) ∷ number_cell (alike.1 i) ∷ [] in
      let own = in_table claim_part all.of_holder claims holds_claims (claim_row h (claim_of x)) h r of (mapped_has (λ z. claim_row h (claim_of z)) r.auths x in_r) in
      two_are_one number_columns claims differ c (claim_row h (claim_of x)) has own (ap number_columns claim_is ∙ numbers)

  -- which is in force where the entry has the key of a claim that is
  is_open : (h : List ℕ) (r : Rows) (x : Auth) (e : RoaPrefix) → all.of_holder h ≡ Some r → Has r.auths x → is_claimed_on day db (entry_row h (claim_entry (claim_of x) e)) ≡ true → is_open_on day (claim_row h (claim_of x)) ≡ true
  is_open h r x e of in_r claimed =
      let row = entry_row h (claim_entry (claim_of x) e) in
      let (k, has, key) = some_has (λ k. is_eq (key_order k (payload_key (entry_columns_read row)))) (keys_on day db) claimed in
      let (d, kept, shows) = has_mapped number_columns (filter (is_open_on day) claims) k has in
      let (there, opened) = has_filtered (is_open_on day) claims d kept in
      let key_of_d : HaveOneKey d row = subst (λ k. is_eq (key_order k (payload_key (entry_columns_read row))) ≡ true) shows key in
      subst (λ b. is_open_on day b ≡ true) (one_claim d there h r x e of in_r key_of_d) opened

  is_in_force : (v : Row) → Contains rows v → IsPayloadOn all day v
  is_in_force v there =
      let (c, kept, shown) = has_mapped payload_columns (filter (is_claimed_on day db) entries) v (has_permuted _ _ v (IsPermutation-sym _ _ found) (has_contained rows v there)) in
      let (has, claimed) = has_filtered (is_claimed_on day db) entries c kept in
      let (h, r, of, mine) = of_some entry_part all.of_holder entries holds_entries c has in
      let (x, e, in_r, in_x, row_is) = entry_row_of h r c mine in
      let opened = is_open h r x e of in_r (subst (λ d. is_claimed_on day db d ≡ true) row_is claimed) in
      let days = and_parts (nat_le x.from day) (nat_le day x.until) (sym (open_is day h (claim_of x)) ∙ opened) in
      (h, r, x, e, of, contains_had r.auths x in_r, contains_had x.entries e in_x, leb-true x.from day days.0, leb-true day x.until days.1, shown ∙ ap payload_columns row_is)

  has_in_force : (v : Row) → IsPayloadOn all day v → Contains rows v
  has_in_force v (h, r, x, e, of, in_r, in_x, from, until, is) =
      let own = has_contained r.auths x in_r in
      let row = entry_row h (claim_entry (claim_of x) e) in
      let its = claim_row h (claim_of x) in
      let kept = in_table entry_part all.of_holder entries holds_entries row h r of (has_entry_row h r x e own (has_contained x.entries e in_x)) in
      let held = in_table claim_part all.of_holder claims holds_claims its h r of (mapped_has (λ z. claim_row h (claim_of z)) r.auths x own) in
      let opened = has_kept (is_open_on day) claims its held (open_is day h (claim_of x) ∙ and_from _ _ (le-leb _ _ from) (le-leb _ _ until)) in
      let on = mapped_has number_columns (filter (is_open_on day) claims) its opened in
      let claimed = some_from (λ k. is_eq (key_order k (payload_key (entry_columns_read row)))) (keys_on day db) (number_columns its) on (ap is_eq (tied_itself key_total (Text h ∷ number_cell x.number ∷ []))) in
      let picked = has_kept (is_claimed_on day db) entries row kept claimed in
      subst (Contains rows) (sym is) (contains_had rows _ (has_permuted _ _ (payload_columns row) found (mapped_has payload_columns (filter (is_claimed_on day db) entries) row picked)))

  each_in_force : (v : Row) → Contains rows v ↔ IsPayloadOn all day v
  each_in_force v = (is_in_force v, has_in_force v)

pub each_payload : (day : ℕ) (s : State) → ClaimsDiffer → IsDatabase s.now → s.now.schema.tables ≡ desk_tables → (rows : List Row) → FindsInForce day s.now rows → EachRows (λ all. (row : Row) → Contains rows row ↔ IsPayloadOn all day row) s
each_payload day s differ sound tables rows found charter all holds =
    each_in_force day all s.now rows holds.claims holds.entries (numbers_differ differ s.now sound tables (holds.whole claim.tree refl)) found
