-- The rows that tables hold give no VRP twice.
use Rattle.store.proofs.Vocabulary.{◌≡◌, ℕ, true, List, map, filter, Some, Contains, refl, sym, ap, subst, ◌∙◌, Database, IsDatabase, Row, Has, all_from, has_contained, filter_all, IsPermutation-same, CharterSets, Auth, RoaPrefix, Rows, AllRows, EntryRow, claim_of, claim_row, entry_row, claim_entry, desk_tables, claim, entry, contents, TablesHold, entry_part, two_are_one, entry_row_once, in_table, has_entry_row, payload_columns, number_columns, ClaimsDiffer, EntriesDiffer, GivenOnce, cells_of_vrp}
use Rattle.store_write.proofs.Numbers.{number_of, numbered_apart}

module _ (claims_differ : ClaimsDiffer) (charter : CharterSets) (rows : AllRows) (db : Database) (sound : IsDatabase db) (tables : db.schema.tables ≡ desk_tables) (holds : TablesHold charter rows db.trees) where
  -- no two authorizations of a holder have one number
  pub one_of_number : (h : List ℕ) (r : Rows) (x y : Auth) → rows.of_holder h ≡ Some r → Has r.auths x → Has r.auths y → x.number ≡ y.number → x ≡ y
  one_of_number h r x y of in_r in_s number =
      let apart = numbered_apart h claims_differ db sound tables (holds.whole claim.tree refl) rows.of_holder r holds.claims of in
      two_are_one (number_of h) r.auths apart x y in_r in_s (ap (λ n. number_columns (claim_row h (record (claim_of x) { number = n }))) number)

module _ (entries_differ : EntriesDiffer) (claims_differ : ClaimsDiffer) (charter : CharterSets) (rows : AllRows) (db : Database) (sound : IsDatabase db) (tables : db.schema.tables ≡ desk_tables) (holds : TablesHold charter rows db.trees) where
  abbrev row_of : List ℕ → Auth → RoaPrefix → Row
  row_of h x e = entry_row h (claim_entry (claim_of x) e)

  has_row : (h : List ℕ) (r : Rows) (x : Auth) (e : RoaPrefix) → rows.of_holder h ≡ Some r → Contains r.auths x → Has x.entries e → Has (contents (db.trees entry.tree)) (row_of h x e)
  has_row h r x e of there has = in_table entry_part rows.of_holder _ holds.entries (row_of h x e) h r of (has_entry_row h r x e (has_contained r.auths x there) has)

  -- no two rows of the table `entry` have one payload
  one_row : (c d : Row) → Has (contents (db.trees entry.tree)) c → Has (contents (db.trees entry.tree)) d → payload_columns c ≡ payload_columns d → c ≡ d
  one_row c d has_c has_d same =
      let table = contents (db.trees entry.tree) in
      let every : filter (λ _. true) table ≡ table = filter_all _ table (all_from _ table (λ _ _. refl)) in
      let apart = entries_differ db sound tables (holds.whole entry.tree refl) (λ _. true) (map payload_columns table) (IsPermutation-same _ _ (ap (map payload_columns) every)) in
      two_are_one payload_columns table apart c d has_c has_d same

  one_holder : (h k : List ℕ) (r s : Rows) (x y : Auth) → h ≡ k → rows.of_holder h ≡ Some r → rows.of_holder k ≡ Some s → Contains r.auths x → Contains s.auths y → x.number ≡ y.number → x ≡ y
  one_holder h k r s x y name of also in_r in_s number =
      let again : rows.of_holder h ≡ Some s = ap rows.of_holder name ∙ also in
      let same : s ≡ r = cc in
      one_of_number claims_differ charter rows db sound tables holds h r x y of (has_contained r.auths x in_r) (has_contained r.auths y (subst (λ (t : Rows). Contains t.auths y) same in_s)) number

  pub held_once : GivenOnce rows
  held_once h k r s x y v of also in_r in_s is too =
      let (e, in_x, cells) = cells_of_vrp x v is in
      let (f, in_y, others) = cells_of_vrp y v too in
      let same = one_row (row_of h x e) (row_of k y f) (has_row h r x e of in_r in_x) (has_row k s y f also in_s in_y) (sym cells ∙ others) in
      let one = entry_row_once h k (claim_entry (claim_of x) e) (claim_entry (claim_of y) f) same in
      (one.0, one_holder h k r s x y one.0 of also in_r in_s (ap (λ (d : EntryRow). d.number) one.1))
