-- An edit of the rows of one holder in one table.
use Rattle.store_tables.proofs.Vocabulary.{◌≡◌, ℕ, Bool, true, false, cond, if◌then◌else◌, not, ◌&&◌, List, [], ◌∷◌, map, filter, Option, refl, sym, ap, subst, ◌∙◌, IsPermutation, is_eq, AllByRecursion, both_ways, IsPermutation-trans, IsPermutation-cons, IsPermutation-map, Value, Null, Int, Real, Text, Blob, Row, column, value_cmp-apart, value_cmp-Text, IsPermutation-filter, all-permutation, all-filter, filter-map, same_name, Rows, same_name-same, same_name-true, Part, part_rows, is_name_of, is_text, HoldsPart}
use Rattle.std.proofs.Math.Bool.{and_comm}
use Rattle.std.proofs.lemmas.Map.Text.{is_eq-slice_cmp}
use Rattle.store_tables.proofs.TreeRows.{filter_twice}
use Rattle.store_tables.proofs.Updating.{changed_if}

-- a text is this name where their bytes are equal
pub name_of_text : (h t : List ℕ) → is_name_of h (Text t) ≡ same_name t h
name_of_text h t = ap is_eq (value_cmp-Text t h) ∙ is_eq-slice_cmp t h

-- a value that is this name is this text
pub name_of-true : (h : List ℕ) (v : Value) → is_name_of h v ≡ true → v ≡ Text h
name_of-true h Null is = absurd (both_ways _ (ap is_eq (value_cmp-apart Null (Text h) (λ e. cc))) is)
name_of-true h (Int n) is = absurd (both_ways _ (ap is_eq (value_cmp-apart (Int n) (Text h) (λ e. cc))) is)
name_of-true h (Real x) is = absurd (both_ways _ (ap is_eq (value_cmp-apart (Real x) (Text h) (λ e. cc))) is)
name_of-true h (Text t) is = ap Text (same_name-true t h (sym (name_of_text h t) ∙ is))
name_of-true h (Blob b) is = absurd (both_ways _ (ap is_eq (value_cmp-apart (Blob b) (Text h) (λ e. cc))) is)

pub name_of_itself : (h : List ℕ) (v : Value) → v ≡ Text h → is_name_of h v ≡ true
name_of_itself h v is = ap (is_name_of h) is ∙ name_of_text h h ∙ same_name-same h

-- a value is one name
pub one_name : (h k : List ℕ) (v : Value) → same_name h k ≡ false → is_name_of h v ≡ true → is_name_of k v ≡ false
one_name h k v differ is = ap (is_name_of k) (name_of-true h v is) ∙ name_of_text k h ∙ differ

abbrev pub names : ℕ → List ℕ → Row → Bool
names place h c = is_name_of h (column c place)

abbrev pub AllText : ℕ → List Row → Type 0
AllText place rows = AllByRecursion (λ c. is_text (column c place) ≡ true) rows

-- the edit is of the rows of one holder
pub record IsLocal (place : ℕ) (h : List ℕ) (edit : List Row → List Row) : Type 0 where
  pub mine : (rows : List Row) → filter (names place h) (edit rows) ≡ edit (filter (names place h) rows)
  pub others : (k : List ℕ) → same_name h k ≡ false → (rows : List Row) → filter (names place k) (edit rows) ≡ filter (names place k) rows
  pub permutes : (xs ys : List Row) → IsPermutation xs ys → IsPermutation (edit xs) (edit ys)
  pub texts : (rows : List Row) → AllText place rows → AllText place (edit rows)

module _ (place : ℕ) (h : List ℕ) where
  pub put_local : (row : Row) → column row place ≡ Text h → IsLocal place h (λ rows. row ∷ rows)
  put_local row is = record {
    mine = λ rows. rw (name_of_itself h (column row place) is) refl;
    others = λ k differ rows. rw (ap (is_name_of k) is ∙ name_of_text k h ∙ differ) refl;
    permutes = λ xs ys same. IsPermutation-cons row xs ys same;
    texts = λ rows all. (ap is_text is, all);
  }

  module _ (goes : Row → Bool) (own : (c : Row) → goes c ≡ true → names place h c ≡ true) where
    not_other : (k : List ℕ) → same_name h k ≡ false → (c : Row) → (not (goes c) && names place k c) ≡ names place k c
    not_other k differ c = go (goes c) refl
      where
        go : (b : Bool) → goes c ≡ b → (not b && names place k c) ≡ names place k c
        go true is = sym (one_name h k (column c place) differ (own c is))
        go false is = refl

    pub take_local : IsLocal place h (filter (λ c. not (goes c)))
    take_local = record {
      mine = λ rows. filter_twice (names place h) (λ c. not (goes c)) rows ∙ (λ i. filter (λ c. and_comm (not (goes c)) (names place h c) i) rows) ∙ sym (filter_twice (λ c. not (goes c)) (names place h) rows);
      others = λ k differ rows. filter_twice (names place k) (λ c. not (goes c)) rows ∙ (λ i. filter (λ c. not_other k differ c i) rows);
      permutes = λ xs ys same. IsPermutation-filter (λ c. not (goes c)) xs ys same;
      texts = λ rows all. all-filter _ (λ c. not (goes c)) rows all;
    }

    module _ (change : Row → Row) (keeps : (c : Row) → goes c ≡ true → column (change c) place ≡ column c place) where
      same_place : (c : Row) → column (changed_if goes change c) place ≡ column c place
      same_place c = go (goes c) refl
        where
          go : (b : Bool) → goes c ≡ b → column (cond b (change c) c) place ≡ column c place
          go true is = keeps c is
          go false is = refl

      unchanged : (k : List ℕ) → same_name h k ≡ false → (rows : List Row) → map (changed_if goes change) (filter (names place k) rows) ≡ filter (names place k) rows
      unchanged k differ [] = refl
      unchanged k differ (c ∷ rows) = go (names place k c) refl (goes c) refl (unchanged k differ rows)
        where
          go : (b : Bool) → names place k c ≡ b → (g : Bool) → goes c ≡ g → map (changed_if goes change) (filter (names place k) rows) ≡ filter (names place k) rows
              → map (changed_if goes change) (cond b (c ∷ filter (names place k) rows) (filter (names place k) rows)) ≡ cond b (c ∷ filter (names place k) rows) (filter (names place k) rows)
          go false named g is more = more
          go true named false is more = rw (is, more)
          go true named true is more = absurd (both_ways _ (one_name h k (column c place) differ (own c is)) named)

      texts_kept : (rows : List Row) → AllText place rows → AllText place (map (changed_if goes change) rows)
      texts_kept [] all = tt
      texts_kept (c ∷ rows) all = (ap is_text (same_place c) ∙ all.0, texts_kept rows all.1)

      pub change_local : IsLocal place h (map (changed_if goes change))
      change_local = record {
        mine = λ rows. filter-map (names place h) (changed_if goes change) rows ∙ (λ i. map (changed_if goes change) (filter (λ c. is_name_of h (same_place c i)) rows));
        others = λ k differ rows. filter-map (names place k) (changed_if goes change) rows ∙ (λ i. map (changed_if goes change) (filter (λ c. is_name_of k (same_place c i)) rows)) ∙ unchanged k differ rows;
        permutes = λ xs ys same. IsPermutation-map (changed_if goes change) xs ys same;
        texts = texts_kept;
      }

-- the rows with those of one holder turned
abbrev pub turned_at : List ℕ → (Option Rows → Option Rows) → (List ℕ → Option Rows) → List ℕ → Option Rows
turned_at h to rows k = if same_name h k then to (rows k) else rows k

-- an edit of the rows of one holder in one table
pub part_turned : (part : Part) (rows : List ℕ → Option Rows) (h : List ℕ) (to : Option Rows → Option Rows) (by : List Row → List Row) (old new : List Row)
    → HoldsPart part rows old → IsLocal part.place h by → IsPermutation (by old) new → IsPermutation (part_rows part h (to (rows h))) (by (part_rows part h (rows h)))
    → HoldsPart part (turned_at h to rows) new
part_turned part rows h to by old new holds local same edits = record {
  each = λ k. go k (same_name h k) refl;
  named = all-permutation _ (by old) new same (local.texts old holds.named);
}
  where
    mine : IsPermutation (part_rows part h (to (rows h))) (filter (names part.place h) new)
    mine =
        IsPermutation-trans _ _ _ edits
        (IsPermutation-trans _ _ _ (local.permutes _ _ (holds.each h))
        (subst (λ l. IsPermutation l (filter (names part.place h) new)) (local.mine old) (IsPermutation-filter (names part.place h) _ _ same)))

    go : (k : List ℕ) (b : Bool) → same_name h k ≡ b → IsPermutation (part_rows part k (cond b (to (rows k)) (rows k))) (filter (names part.place k) new)
    go k true is = subst (λ n. IsPermutation (part_rows part n (to (rows n))) (filter (names part.place n) new)) (same_name-true h k is) mine
    go k false differ = IsPermutation-trans _ _ _ (holds.each k) (subst (λ l. IsPermutation l (filter (names part.place k) new)) (local.others k differ old) (IsPermutation-filter (names part.place k) _ _ same))

-- a table in which the holder has the same rows
pub part_same : (part : Part) (rows : List ℕ → Option Rows) (h : List ℕ) (to : Option Rows → Option Rows) (table : List Row)
    → HoldsPart part rows table → part_rows part h (rows h) ≡ part_rows part h (to (rows h)) → HoldsPart part (turned_at h to rows) table
part_same part rows h to table holds same = record { each = λ k. go k (same_name h k) refl; named = holds.named }
  where
    go : (k : List ℕ) (b : Bool) → same_name h k ≡ b → IsPermutation (part_rows part k (cond b (to (rows k)) (rows k))) (filter (names part.place k) table)
    go k true is = subst (λ l. IsPermutation l (filter (names part.place k) table)) (subst (λ n. part_rows part n (rows n) ≡ part_rows part n (to (rows n))) (same_name-true h k is) same) (holds.each k)
    go k false differ = holds.each k

abbrev pub EditsPart : Part → List ℕ → (Rows → Rows) → (List Row → List Row) → Type 0
EditsPart part h edit by = (r : Rows) → IsPermutation (part.rows h (edit r)) (by (part.rows h r))
