-- What putting and removing rows does to the rows of a tree.
use Rattle.store_tables.proofs.Vocabulary.{◌≡◌, ℤ, Bool, true, false, not, ◌||◌, ◌&&◌, cond, List, [], ◌∷◌, ◌++◌, map, filter, refl, sym, ap, ◌∙◌, Ordering, Less, Equal, Greater, is_eq, IsPermutation, inl, inr, AllByRecursion, list_any, match_ordering, and_parts, or_parts, not-true, both_ways, false_from_ne_true, tied_itself, list_any-IsPermutation, IsPermutation-refl, IsPermutation-cons, IsPermutation-middle, IsPermutation-trans, IsPermutation-sym, IsPermutation-append_right, Value, Int, Row, value_cmp, value_cmp_total, rowid, has_rowid, put_row, without_rowid, IsAscending, filter_same, id_in, row_at, is_taken, are_fresh, put_all, without_all, have_rowids, Has, all_has, all_from, some_has, some_from, has_filtered, has_kept, turn_eq, IsTree}
use Rattle.sqlite_trees.specs.View.{is_int}
use Rattle.sqlite_trees.proofs.TreeLemmas.{all-put_row}
use Rattle.sqlite_rules.proofs.TableLemmas.{int_is}

pub alike_flip : (a b : Value) → is_eq (value_cmp a b) ≡ is_eq (value_cmp b a)
alike_flip = turn_eq value_cmp value_cmp_total

abbrev IsOther : Row → Row → Type 0
IsOther a b = is_eq (value_cmp (rowid a) (rowid b)) ≡ false

apart : (new : Row) (rows : List Row) → is_taken rows new ≡ false → AllByRecursion (IsOther new) rows
apart new [] free = tt
apart new (r ∷ rows) free = let parts = or_parts _ _ free in (alike_flip _ _ ∙ parts.0, apart new rows parts.1)

pub put_permutes : (new : Row) (rows : List Row) → is_taken rows new ≡ false → IsPermutation (new ∷ rows) (put_row new rows)
put_permutes new [] free = IsPermutation-refl _
put_permutes new (r ∷ rows) free = go (value_cmp (rowid r) (rowid new)) refl (put_permutes new rows (or_parts _ _ free).1)
  where
    go : (o : Ordering) → value_cmp (rowid r) (rowid new) ≡ o → IsPermutation (new ∷ rows) (put_row new rows)
        → IsPermutation (new ∷ r ∷ rows) (match_ordering o (r ∷ put_row new rows) (new ∷ rows) (new ∷ r ∷ rows))
    go Less e more = IsPermutation-trans _ _ _ (IsPermutation-middle (new ∷ []) r rows) (IsPermutation-cons r _ _ more)
    go Equal e more = absurd (both_ways _ (or_parts _ _ free).0 (ap is_eq e))
    go Greater e more = IsPermutation-refl _

pub put_tree : (new : Row) (rows : List Row) → is_int (rowid new) ≡ true → is_taken rows new ≡ false → IsTree rows → IsTree (put_row new rows)
put_tree new rows keyed free tree = (up rows free tree.0, all-put_row _ new rows keyed tree.1)
  where
    up : (rows : List Row) → is_taken rows new ≡ false → IsAscending IsOther rows → IsAscending IsOther (put_row new rows)
    up [] free tree = (tt, tt)
    up (r ∷ rows) free tree = go (value_cmp (rowid r) (rowid new)) refl (up rows (or_parts _ _ free).1 tree.1)
      where
        go : (o : Ordering) → value_cmp (rowid r) (rowid new) ≡ o → IsAscending IsOther (put_row new rows) → IsAscending IsOther (match_ordering o (r ∷ put_row new rows) (new ∷ rows) (new ∷ r ∷ rows))
        go Less e more = (all-put_row _ new rows (ap is_eq e) tree.0, more)
        go Equal e more = absurd (both_ways _ (or_parts _ _ free).0 (ap is_eq e))
        go Greater e more = (apart new (r ∷ rows) free, tree)

-- several rows that are put in turn
pub put_all_permutes : (news rows : List Row) → are_fresh rows news ≡ true → IsPermutation (news ++ rows) (put_all rows news)
put_all_permutes [] rows fresh = IsPermutation-refl _
put_all_permutes (r ∷ news) rows fresh =
    let parts = and_parts (not (is_taken rows r)) (are_fresh (put_row r rows) news) fresh in
    IsPermutation-trans _ _ _ (IsPermutation-sym _ _ (IsPermutation-middle news r rows))
    (IsPermutation-trans _ _ _ (IsPermutation-append_right news _ _ (put_permutes r rows (not-true _ parts.0))) (put_all_permutes news (put_row r rows) parts.1))

pub put_all_tree : (news rows : List Row) → have_rowids news ≡ true → are_fresh rows news ≡ true → IsTree rows → IsTree (put_all rows news)
put_all_tree [] rows keyed fresh tree = tree
put_all_tree (r ∷ news) rows keyed fresh tree =
    let key = and_parts (is_int (rowid r)) (have_rowids news) keyed in
    let free = and_parts (not (is_taken rows r)) (are_fresh (put_row r rows) news) fresh in
    put_all_tree news (put_row r rows) key.1 free.1 (put_tree r rows key.0 (not-true _ free.0) tree)

pub filter_twice : {A : Type 0} (p q : A → Bool) (xs : List A) → filter p (filter q xs) ≡ filter (λ x. q x && p x) xs
filter_twice p q [] = refl
filter_twice p q (x ∷ xs) =
    elim (q x) as (λ b. filter p (cond b (x ∷ filter q xs) (filter q xs)) ≡ cond (b && p x) (x ∷ filter (λ y. q y && p y) xs) (filter (λ y. q y && p y) xs))
    [ true ↦ ap (λ l. cond (p x) (x ∷ l) l) (filter_twice p q xs) | false ↦ filter_twice p q xs ]

pub neither : (a b : Bool) → (not a && not b) ≡ not (a || b)
neither true b = refl
neither false b = refl

pub all_kept : {A : Type 0} (xs : List A) → filter (λ x. true) xs ≡ xs
all_kept [] = refl
all_kept (x ∷ xs) = ap (λ l. x ∷ l) (all_kept xs)

pub without_all-filter : (gone : List ℤ) (rows : List Row) → without_all rows gone ≡ filter (λ r. not (list_any (λ id. has_rowid id r) gone)) rows
without_all-filter [] rows = sym (all_kept rows)
without_all-filter (id ∷ gone) rows =
    without_all-filter gone (without_rowid id rows)
    ∙ filter_twice (λ r. not (list_any (λ other. has_rowid other r) gone)) (λ r. not (has_rowid id r)) rows
    ∙ (λ i. filter (λ r. neither (has_rowid id r) (list_any (λ other. has_rowid other r) gone) i) rows)

-- a rowid has one row
pub once : (rows : List Row) → IsTree rows → (a b : Row) → Has rows a → Has rows b → is_eq (value_cmp (rowid a) (rowid b)) ≡ true → a ≡ b
once [] tree a b p q e = absurd p
once (x ∷ xs) tree a b (inl p) (inl q) e = p ∙ sym q
once (x ∷ xs) tree a b (inl p) (inr q) e = absurd (both_ways _ (rw p (all_has (IsOther x) xs b tree.0.0 q)) e)
once (x ∷ xs) tree a b (inr p) (inl q) e = absurd (both_ways _ (alike_flip (rowid a) (rowid b) ∙ rw q (all_has (IsOther x) xs a tree.0.0 p)) e)
once (x ∷ xs) tree a b (inr p) (inr q) e = once xs (tree.0.1, tree.1.1) a b p q e

-- a row of a tree is found by its rowid
pub found_at : (rows : List Row) → IsTree rows → (x : Row) → Has rows x → row_at rows (id_in (rowid x)) ≡ x
found_at [] tree x there = absurd there
found_at (y ∷ ys) tree x (inl same) =
    let key = int_is (rowid x) (all_has (λ z. is_int (rowid z) ≡ true) (y ∷ ys) x tree.1 (inl same)) in
    let found : has_rowid (id_in (rowid x)) y ≡ true =
    ap (λ v. is_eq (value_cmp (rowid y) v)) (sym key) ∙ ap (λ (z : Row). is_eq (value_cmp (rowid y) (rowid z))) same ∙ ap is_eq (tied_itself value_cmp_total (rowid y)) in
    rw found (sym same)
found_at (y ∷ ys) tree x (inr later) =
    let key = int_is (rowid x) (all_has (λ z. is_int (rowid z) ≡ true) (y ∷ ys) x tree.1 (inr later)) in
    let other : has_rowid (id_in (rowid x)) y ≡ false = ap (λ v. is_eq (value_cmp (rowid y) v)) (sym key) ∙ all_has (IsOther y) ys x tree.0.0 later in
    rw other (found_at ys (tree.0.1, tree.1.1) x later)

pub list_any-map : {A B : Type 0} (p : B → Bool) (f : A → B) (xs : List A) → list_any p (map f xs) ≡ list_any (λ x. p (f x)) xs
list_any-map p f [] = refl
list_any-map p f (x ∷ xs) = ap (λ b. p (f x) || b) (list_any-map p f xs)

module _ (tree : List Row) (sound : IsTree tree) (picks : Row → Bool) where
  keys_of : (r : Row) → Has tree r → rowid r ≡ Int (id_in (rowid r))
  keys_of r there = int_is (rowid r) (all_has (λ x. is_int (rowid x) ≡ true) tree r sound.1 there)

  gone_picks : (r : Row) → Has tree r → list_any (λ x. has_rowid (id_in (rowid x)) r) (filter picks tree) ≡ picks r
  gone_picks r there = go (picks r) refl
    where
      go : (b : Bool) → picks r ≡ b → list_any (λ x. has_rowid (id_in (rowid x)) r) (filter picks tree) ≡ b
      go true picked =
          some_from (λ x. has_rowid (id_in (rowid x)) r) (filter picks tree) r (has_kept picks tree r there picked)
          (ap (λ v. is_eq (value_cmp (rowid r) v)) (sym (keys_of r there)) ∙ ap is_eq (tied_itself value_cmp_total (rowid r)))
      go false passed = false_from_ne_true _ (λ some.
          let found = some_has (λ x. has_rowid (id_in (rowid x)) r) (filter picks tree) some in
          let was = has_filtered picks tree found.0 found.1 in
          let alike : is_eq (value_cmp (rowid r) (rowid found.0)) ≡ true = ap (λ v. is_eq (value_cmp (rowid r) v)) (keys_of found.0 was.0) ∙ found.2 in
          let same = once tree sound r found.0 there was.0 alike in
          both_ways _ passed (ap picks same ∙ was.1))

  -- taking out the rowids of the picked rows takes out the picked rows
  pub without_picked : (ids : List ℤ) → IsPermutation (map (λ r. id_in (rowid r)) (filter picks tree)) ids → without_all tree ids ≡ filter (λ r. not (picks r)) tree
  without_picked ids same =
      without_all-filter ids tree
      ∙ filter_same (λ r. not (list_any (λ id. has_rowid id r) ids)) (λ r. not (picks r)) tree
      (all_from _ tree (λ r there. ap not (
      sym (list_any-IsPermutation (λ id. has_rowid id r) _ ids same)
      ∙ list_any-map (λ id. has_rowid id r) (λ x. id_in (rowid x)) (filter picks tree)
      ∙ gone_picks r there)))
