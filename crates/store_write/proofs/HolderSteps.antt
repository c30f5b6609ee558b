-- Whether a holder is registered, by the rows that its counters have.
use Rattle.store_write.proofs.Vocabulary.{◌≡◌, ℕ, Bool, not, ◌==◌, List, [], ◌∷◌, map, filter, drop, length, Option, Some, None, is_some, refl, sym, ap, ◌∙◌, length-map, length_permutation, State, Shown, IsUnchanged, Null, Text, Row, filter-map, col, CharterSets, Rows, AllRows, part_rows, holder_part, TablesHold, SELECT_COUNTERS, IsReady, AnswersWhetherRegistered, holder_test, names, reads_desk, permuted, equals, counters_is}

module _ (h : List ℕ) (old new : State) (ready : IsReady old) (rows : List Row) (shown : Shown SELECT_COUNTERS.now (Text h ∷ []) old new rows) where
  -- as many rows are found as the holder has in its table
  found : (charter : CharterSets) (all : AllRows) → TablesHold charter all old.now.trees → length rows ≡ length (part_rows holder_part h (all.of_holder h))
  found charter all holds =
      let read = reads_desk counters_is (Text h ∷ []) old new rows ready.tables shown in
      let same = permuted 6 (equals 1 0 ∷ []) (col 1 2 ∷ col 1 3 ∷ []) [] old.now.trees (Text h ∷ []) rows (read.answer Null) in
      let picked = filter-map (names 0 h) (drop 1) (old.now.trees 6) ∙ (λ i. map (drop 1) (filter (λ r. sym (holder_test 0 h [] r) i) (old.now.trees 6))) in
      length_permutation _ _ same ∙ length-map _ _ ∙ sym (ap length picked ∙ length-map _ _) ∙ length_permutation _ _ (holds.holders.each h)

  pub registered_if_found : (empty : Bool) (count : ℕ) → count ≡ length rows → empty ≡ (count == 0) → IsUnchanged old new → IsReady new → AnswersWhetherRegistered h (not empty) old new
  registered_if_found empty count counted is same still = record {
    was_open = same.0.was_open;
    ready = still;
    same = same.0.now_is;
    answer = λ charter all holds. ap not (is ∙ ap (λ n. n == 0) (counted ∙ found charter all holds)) ∙ go (all.of_holder h);
  }
    where
      go : (o : Option Rows) → not (length (part_rows holder_part h o) == 0) ≡ is_some o
      go None = refl
      go (Some r) = refl
