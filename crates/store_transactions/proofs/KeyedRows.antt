-- No two rows of a table that has a key show the same in the columns of the key: entries differ in their VRPs, and
-- claims in their holders or numbers.
use Rattle.store_transactions.proofs.Vocabulary.{◌≡◌, ◌≢◌, ℕ, true, false, List, Some, None, drop, slice_get, slice_index_or, refl, inl, inr, sym, is_eq, both_ways, Database, IsDatabase, plain, Row, value_cmp, rowid, IsAscending, is_int, ascending-filter, ascending-map, ascending-get_or, Has, all_has, all_from, agree, are_present, Table, desk_tables, rising, claim, entry, contents, IsTree, payload_columns, number_columns, RowsDiffer, ClaimsDiffer, EntriesDiffer}
use Rattle.store_transactions.proofs.Obeyed.{payload_key, agree_in_payload, number_key, agree_in_number, once_by_key, filled}
use Rattle.store_transactions.proofs.Ascending.{ascending_moved, ascending_where}

-- a table with a key, and the columns of a row that tell it among its rows
module _ (t : Table) (has : Has desk_tables t) (no_rowid : t.key ≡ None) (at : ℕ) (key : List ℕ) (is_key : slice_get t.uniques at ≡ Some key)
    (upwards : slice_index_or t.orders at plain ≡ rising) (shown : Row → Row)
    (agrees : (a b : Row) → are_present None 0 t.columns b ≡ true → shown (drop 1 a) ≡ shown (drop 1 b) → agree rising key a key b ≡ true) where
  module _ (db : Database) (sound : IsDatabase db) (tables : db.schema.tables ≡ desk_tables) (whole : IsTree (db.trees t.tree)) where
    rows_differ : (a b : Row) → Has (db.trees t.tree) a → Has (db.trees t.tree) b → is_eq (value_cmp (rowid a) (rowid b)) ≡ false → shown (drop 1 a) ≢ shown (drop 1 b)
    rows_differ a b has_a has_b apart same =
        let int = λ (c : Row) (there : Has (db.trees t.tree) c). all_has (λ c. is_int (rowid c) ≡ true) (db.trees t.tree) c whole.1 there in
        let present = all_has (λ r. are_present None 0 t.columns r ≡ true) (db.trees t.tree) b (filled db.schema db.trees tables sound t has no_rowid) has_b in
        both_ways _ (once_by_key db.schema db.trees tables sound t has at key is_key upwards a b has_a has_b (int a has_a) (int b has_b) apart)
        (agrees a b present same)

    all_differ : IsAscending (λ c d. shown c ≢ shown d) (contents (db.trees t.tree))
    all_differ =
        let tree = db.trees t.tree in
        ascending-map (λ c d. shown c ≢ shown d) (drop 1) tree
        (ascending_where (Has tree) _ (λ a b. shown (drop 1 a) ≢ shown (drop 1 b)) (λ a b has_a has_b. rows_differ a b has_a has_b) tree (all_from (Has tree) tree (λ r there. there)) whole.0)

  picked_differ : RowsDiffer t.tree shown
  picked_differ db sound tables whole picked rows same i j d below within =
      let kept = ascending-filter _ picked _ (all_differ db sound tables whole) in
      ascending-get_or ◌≢◌ rows i j d (ascending_moved ◌≢◌ (λ x y apart is. apart (sym is)) _ rows same (ascending-map ◌≢◌ shown _ kept)) below within

pub at_entry : Has desk_tables entry
at_entry = inr (inr (inr (inr (inr (inr (inr (inr (inr (inl refl)))))))))

pub at_claim : Has desk_tables claim
at_claim = inr (inr (inr (inr (inr (inr (inr (inr (inl refl))))))))

pub entries_differ : EntriesDiffer
entries_differ = picked_differ entry at_entry refl 1 payload_key refl refl payload_columns agree_in_payload

pub claims_differ : ClaimsDiffer
claims_differ = picked_differ claim at_claim refl 0 number_key refl refl number_columns agree_in_number

-- the claims of a database differ in their holders or numbers
pub all_claims_differ :
    (db : Database) → IsDatabase db → db.schema.tables ≡ desk_tables → IsTree (db.trees claim.tree)
    → IsAscending (λ c d. number_columns c ≢ number_columns d) (contents (db.trees claim.tree))
all_claims_differ = all_differ claim at_claim refl 0 number_key refl refl number_columns agree_in_number
