-- Rows that end in their rowids, and the trees that they are of.
use Rattle.store_open.proofs.Vocabulary.{◌≡◌, ℕ, suc, ◌+◌, ◌-◌, true, false, List, [], ◌∷◌, ◌++◌, map, drop, length, get_or, All, Result, Ok, Err, IfOk, refl, sym, ap, subst, ◌∙◌, is_eq, is_lt, int_cmp, Ordering, Less, Equal, Greater, arith, IsPermutation, AllAdjacentBelow, AllByRecursion, ints, Any, Vec, length-append, length-map, IsPermutation-map, IsPermutation-sym, Value, Null, Int, Row, column, value_cmp, value_cmp-Int, rowid, IsAscending, is_int, map-map, all_weaker, all_from_map, all-permutation, ascending_from_map, ascending_weaker, all_has, any_has, ShowsNone, first_columns, columns, contents, IsTree, StoreFault, ShowsSome, ascending_moved, last_value, is_integer_below, AscendByNumber, columns_and_rowid, AreRead}
use Rattle.std.proofs.lemmas.List.FromFn.{fill_by_all}
use lib.ListN.{get_or-append}
use lib.Seq.{get_or-append_seam}
use Rattle.store_tables.proofs.TreeRows.{alike_flip}

-- ---- from each row and the next to all rows

pub below_apart : (a b : Value) → is_integer_below a b ≡ true → is_eq (value_cmp a b) ≡ false
below_apart (Int m) (Int n) is = ap is_eq (value_cmp-Int m n) ∙ go (int_cmp m n) is
  where
    go : (o : Ordering) → is_lt o ≡ true → is_eq o ≡ false
    go Less is = refl
    go Equal is = absurd cc
    go Greater is = absurd cc
below_apart _ _ is = absurd cc

below_then : (a b c : Value) → is_integer_below a b ≡ true → is_integer_below b c ≡ true → is_integer_below a c ≡ true
below_then (Int m) (Int n) (Int k) first second = grind (arith, ints)
below_then _ _ _ first second = absurd cc

abbrev AreBelow : Row → Row → Type 0
AreBelow a b = is_integer_below (last_value a) (last_value b) ≡ true

all_below : (rows : List Row) → AllAdjacentBelow AreBelow rows (length rows) → IsAscending AreBelow rows
all_below [] next = tt
all_below (a ∷ []) next = (tt, tt)
all_below (a ∷ b ∷ rows) next =
    let after : (k : ℕ) → suc k + 1 ≡ suc (k + 1) = λ k. omega arith in
    let later = all_below (b ∷ rows) (λ k d low. subst (λ n. AreBelow (get_or (b ∷ rows) k d) (get_or (a ∷ b ∷ rows) n d)) (after k) (next (suc k) d (omega (arith, low)))) in
    let first : AreBelow a b = next 0 a (omega arith) in
    ((first, all_weaker (AreBelow b) (AreBelow a) (λ c. below_then (last_value a) (last_value b) (last_value c) first) rows later.0), later)

pub rows_rise : (rows : List Row) → AllAdjacentBelow AreBelow rows (length rows) → AllByRecursion (λ c. is_int (last_value c) ≡ true) rows → AscendByNumber rows
rows_rise rows next ints = (ascending_weaker AreBelow _ (λ a b. below_apart (last_value a) (last_value b)) rows (all_below rows next), ints)

-- ---- rows in another order

abbrev pub AreApart : Row → Row → Type 0
AreApart a b = is_eq (value_cmp (last_value a) (last_value b)) ≡ false

stay_apart : (xs ys : List Row) → IsPermutation xs ys → IsAscending AreApart xs → IsAscending AreApart ys
stay_apart = ascending_moved AreApart (λ a b apart. alike_flip (last_value b) (last_value a) ∙ apart)

-- ---- the tree that they are of

last_of_numbered : (places : List ℕ) (r : Row) → last_value (columns_and_rowid places r) ≡ rowid r
last_of_numbered places r =
    let shown = columns places (drop 1 r) in
    let at : length (shown ++ rowid r ∷ []) - 1 ≡ length shown = omega (arith, length-append shown (rowid r ∷ [])) in
    ap (column (shown ++ rowid r ∷ [])) at ∙ get_or-append_seam shown (rowid r) [] Null

pub is_tree : (places : List ℕ) (tree rows : List Row) → IsPermutation (map (columns_and_rowid places) tree) rows → AscendByNumber rows → IsTree tree
is_tree places tree rows same up =
    let back = IsPermutation-sym _ _ same in
    let apart = stay_apart rows (map (columns_and_rowid places) tree) back up.0 in
    let is = last_of_numbered places in (
      ascending_weaker _ _ (λ a b h. (λ i. is_eq (value_cmp (sym (is a) i) (sym (is b) i))) ∙ h) tree (ascending_from_map AreApart (columns_and_rowid places) tree apart),
      all_weaker _ _ (λ a h. ap is_int (sym (is a)) ∙ h) tree (all_from_map (λ c. is_int (last_value c) ≡ true) (columns_and_rowid places) tree (all-permutation _ rows _ back up.1)),
    )

-- ---- what is read of them

first_of_more : (c more : Row) → first_columns (length c) (c ++ more) ≡ c
first_of_more c more = sym (fill_by_all (column (c ++ more)) c (length c) Null refl (λ k within. sym (get_or-append c more Null k within)))

first_of_numbered : (width : ℕ) (places : List ℕ) (r : Row) → length places ≡ width → first_columns width (columns_and_rowid places r) ≡ columns places (drop 1 r)
first_of_numbered width places r counted =
    let shown = columns places (drop 1 r) in
    subst (λ n. first_columns n (shown ++ rowid r ∷ []) ≡ shown) (length-map places (column (drop 1 r)) ∙ counted) (first_of_more shown (rowid r ∷ []))

pub shown_of : (width : ℕ) (places : List ℕ) (tree rows : List Row) → length places ≡ width → IsPermutation (map (columns_and_rowid places) tree) rows
    → IsPermutation (map (columns places) (contents tree)) (map (first_columns width) rows)
shown_of width places tree rows counted same =
    let firsts = map-map (first_columns width) (columns_and_rowid places) tree ∙ (λ i. map (λ r. first_of_numbered width places r counted i) tree) ∙ sym (map-map (columns places) (drop 1) tree) in
    subst (λ l. IsPermutation l (map (first_columns width) rows)) firsts (IsPermutation-map (first_columns width) (map (columns_and_rowid places) tree) rows same)

module _ {X : Type 0} (cells : X → Row) (fits : X → Type 0) (shown found : List Row) (same : IsPermutation shown found) where
  pub values_read : (r : Result (Vec X) StoreFault) → IfOk r (λ values. found ≡ map cells values.items) → IfOk r (λ values. All fits values.items) → IfOk r (λ values. AreRead cells fits shown values.items)
  values_read (Ok values) is fit = record { fit = fit; same = subst (IsPermutation shown) is same }
  values_read (Err e) is fit = tt

  pub some_unread : Any (ShowsNone cells fits) found → ¬ AllByRecursion (ShowsSome cells fits) shown
  some_unread none all =
      let it = any_has (ShowsNone cells fits) found none in
      let shows = all_has (ShowsSome cells fits) found it.0 (all-permutation (ShowsSome cells fits) shown found same all) it.1 in
      it.2 shows.0 shows.1 (sym shows.2)
