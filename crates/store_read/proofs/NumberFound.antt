-- The authorizations of a holder that have a number, out of the claims of that number and the rows of its entries.
use Rattle.store_read.proofs.Vocabulary.{◌≡◌, ◌≢◌, ℕ, ◌&&◌, List, [], map, flat_map, filter, Option, Some, None, refl, ap, subst, ◌∙◌, IsPermutation, IsSorted, All, AllPairs, AllByRecursion, All-from_recursion, recursion_from_All, IsPermutation-map, IsPermutation-sym, Database, IsDatabase, IsPermutation-filter, all-filter, all-flat_map, all-map, all_weaker, map-map, CharterSets, Rows, AllRows, AuthFits, FitIfAny, Auth, Claim, EntryRow, AreAuths, NumbersRise, claim_of, entry_rows_of, claim_cells, claim_row, entry_cells, ClaimFits, EntryRowFits, claim, contents, desk_tables, TablesHold, claim_part, items_if_any, part_rows, by_entry, names, filter_twice, ClaimsDiffer, number_columns, AreInOrder, by_column}
use Rattle.store_read.proofs.AuthsFound.{HasEntries, are_some, held_entries, in_order, key_of}
use Rattle.store_read.proofs.Finding.{claims_kept, claims_numbered, entries_numbered, has_number, is_numbered}
use Rattle.store_read.proofs.Loading.{claim_fits, entries_of_fit}

abbrev auths_if_any : Option Rows → List Auth
auths_if_any = items_if_any (λ r. r.auths)

-- ---- over the tables

module _
    (differ : ClaimsDiffer) (charter : CharterSets) (all : AllRows) (db : Database) (sound : IsDatabase db) (tables : db.schema.tables ≡ desk_tables)
    (holds : TablesHold charter all db.trees) (h : List ℕ) (n : ℕ) where
  abbrev numbered : List Auth
  numbered = filter (has_number n) (auths_if_any (all.of_holder h))

  numbers_differ : AllPairs ◌≢◌ (map (key_of h) numbered)
  numbers_differ =
      differ db sound tables (holds.whole claim.tree refl) (λ c. names claim_part.place h c && is_numbered n c) _
      (subst (λ l. IsPermutation (map number_columns (filter (λ c. names claim_part.place h c && is_numbered n c) (contents (db.trees claim.tree)))) l) (go (all.of_holder h))
      (subst (λ l. IsPermutation (map number_columns l) (map number_columns (filter (is_numbered n) (part_rows claim_part h (all.of_holder h))))) (filter_twice (is_numbered n) (names claim_part.place h) (contents (db.trees claim.tree)))
      (IsPermutation-map number_columns _ _ (IsPermutation-filter (is_numbered n) _ _ (IsPermutation-sym _ _ (holds.claims.each h))))))
    where
      go : (o : Option Rows) → map number_columns (filter (is_numbered n) (part_rows claim_part h o)) ≡ map (key_of h) (filter (has_number n) (auths_if_any o))
      go None = refl
      go (Some r) = ap (map number_columns) (claims_kept h n r.auths) ∙ map-map number_columns (λ x. claim_row h (claim_of x)) (filter (has_number n) r.auths)

  module _ (claims : List Claim) (rows : List EntryRow)
      (same_claims : IsPermutation (items_if_any (claims_numbered n) (all.of_holder h)) claims) (claims_sorted : IsSorted (by_column 0) (map claim_cells claims))
      (same_rows : IsPermutation (items_if_any (entries_numbered n) (all.of_holder h)) rows) (sorted : IsSorted by_entry (map entry_cells rows)) where
    its_claims : IsPermutation (map claim_of numbered) claims
    its_claims = go (all.of_holder h) same_claims
      where
        go : (o : Option Rows) → IsPermutation (items_if_any (claims_numbered n) o) claims → IsPermutation (map claim_of (filter (has_number n) (auths_if_any o))) claims
        go None same = same
        go (Some r) same = same

    its_rows : IsPermutation (flat_map entry_rows_of numbered) rows
    its_rows = go (all.of_holder h) same_rows
      where
        go : (o : Option Rows) → IsPermutation (items_if_any (entries_numbered n) o) rows → IsPermutation (flat_map entry_rows_of (filter (has_number n) (auths_if_any o))) rows
        go None same = same
        go (Some r) same = same

    have : AllByRecursion HasEntries numbered
    have = all-filter HasEntries (has_number n) (auths_if_any (all.of_holder h)) (held_entries charter all db.trees holds h)

    pub number_found : (auths : List Auth) → AreAuths claims rows auths → AreInOrder (λ (x : Auth). x.number) numbered auths
    number_found = in_order h numbered claims rows have numbers_differ its_claims claims_sorted its_rows sorted

    pub never_no_number : (NumbersRise claims → (auths : List Auth) → ¬ AreAuths claims rows auths) → ⊥
    never_no_number = are_some h numbered claims rows have numbers_differ its_claims claims_sorted its_rows sorted

-- ---- rows that fit

numbered_fit : (n : ℕ) (r : Rows) → All AuthFits r.auths → AllByRecursion AuthFits (filter (has_number n) r.auths)
numbered_fit n r fits = all-filter AuthFits (has_number n) r.auths (recursion_from_All AuthFits r.auths fits)

pub numbered_claims_fit : (n : ℕ) (o : Option Rows) → FitIfAny o → All ClaimFits (items_if_any (claims_numbered n) o)
numbered_claims_fit n None fit = All-from_recursion ClaimFits [] tt
numbered_claims_fit n (Some r) fit =
    All-from_recursion ClaimFits (claims_numbered n r)
    (all-map ClaimFits claim_of _ (all_weaker AuthFits (λ x. ClaimFits (claim_of x)) claim_fits _ (numbered_fit n r fit.auths)))

pub numbered_entries_fit : (n : ℕ) (o : Option Rows) → FitIfAny o → All EntryRowFits (items_if_any (entries_numbered n) o)
numbered_entries_fit n None fit = All-from_recursion EntryRowFits [] tt
numbered_entries_fit n (Some r) fit =
    All-from_recursion EntryRowFits (entries_numbered n r)
    (all-flat_map EntryRowFits entry_rows_of _ (all_weaker AuthFits (λ x. AllByRecursion EntryRowFits (entry_rows_of x)) entries_of_fit _ (numbered_fit n r fit.auths)))
