-- How many authorizations a holder has: the number of its claims.
use Rattle.store_read.proofs.Vocabulary.{◌≡◌, ℕ, min, List, [], ◌∷◌, filter, length, slice_get, unwrap_or, Option, Some, None, IsTrue, arith, refl, sym, ap, subst, ◌∙◌, length-map, length_permutation, ok_or, IfOk, State, Shown, as_count, Term, Null, Text, Row, column, CharterSets, Rows, AllRows, IsU32, number_cell, Decodes, desk_tables, contents, TablesHold, part_rows, claim_part, COUNT_HOLDER_CLAIMS, count_claims_is, names, picks, holder_test, equals, reads_desk, StoreFault, auths_held}
use Rattle.sqlite_sql.specs.Aggregate.{count}
use Rattle.store_tables.proofs.Counting.{counted}
use Rattle.store_read.proofs.Finding.{of_contents}

-- a holder has a claim for each authorization
claims_counted : (h : List ℕ) (o : Option Rows) → length (part_rows claim_part h o) ≡ length (auths_held o)
claims_counted h None = refl
claims_counted h (Some r) = length-map r.auths _

abbrev tests : List Term
tests = equals 1 0 ∷ []

module _ (h : List ℕ) (old new : State) (has : IsTrue old.is_open → old.now.schema.tables ≡ desk_tables) (params : Row) (is : params ≡ Text h ∷ []) (rows : List Row) (shown : Shown COUNT_HOLDER_CLAIMS.now params old new rows) where
  abbrev table : List Row
  table = old.now.trees claim_part.tree

  claims_found : (charter : CharterSets) (all : AllRows) → TablesHold charter all old.now.trees → length (filter (picks (Text h ∷ []) tests) table) ≡ length (auths_held (all.of_holder h))
  claims_found charter all holds =
      sym (length-map (filter (picks (Text h ∷ []) tests) table) (λ _. Null ∷ []))
      ∙ ap length (of_contents (λ _. Null ∷ []) (λ _. Null ∷ []) (picks (Text h ∷ []) tests) (names 0 h) (λ _. refl) (holder_test 0 h []) table)
      ∙ length-map (filter (names 0 h) (contents table)) _
      ∙ length_permutation _ _ (holds.claims.each h)
      ∙ claims_counted h (all.of_holder h)

  -- the answer is one row, of the number of the holder's authorizations
  pub row-is : (charter : CharterSets) (all : AllRows) → TablesHold charter all old.now.trees → rows ≡ (count (length (auths_held (all.of_holder h))) ∷ []) ∷ []
  row-is charter all holds =
      let of_name = subst (λ p. Shown COUNT_HOLDER_CLAIMS.now p old new rows) is shown in
      let answer = (reads_desk count_claims_is (Text h ∷ []) old new rows has of_name).answer Null in
      counted claim_part.tree tests old.now.trees (Text h ∷ []) rows answer
      ∙ ap (λ n. (count n ∷ []) ∷ []) (claims_found charter all holds)

-- a number below 2 ^ 32 that the row shows is that one
pub number-read : (n m : ℕ) (rows : List Row) (row : Row) → rows ≡ (count n ∷ []) ∷ [] → slice_get rows 0 ≡ Some row → IsU32 m → column row 0 ≡ number_cell m → m ≡ n
number-read n m rows row is first fits shown =
    let counts : row ≡ count n ∷ [] = ap (λ o. unwrap_or o row) (sym first ∙ ap (λ l. slice_get l 0) is) in
    let same : min n 9223372036854775807 ≡ m = ap (λ v. unwrap_or (as_count v) 0) (sym (ap (λ r. column r 0) counts) ∙ shown) in
    grind (arith, same, fits)

-- what holds of each number that the row shows holds of the one that is read
pub if-read : (read : Option ℕ) (fault : StoreFault) (row : Row) (Is : ℕ → Type 0) → ((m : ℕ) → IsU32 m → column row 0 ≡ number_cell m → Is m) → Decodes number_cell IsU32 (column row 0) read → IfOk (ok_or read fault) Is
if-read None fault row Is each shown = tt
if-read (Some m) fault row Is each shown = each m shown.0 shown.1
