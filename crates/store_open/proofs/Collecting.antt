-- Values that are taken from rows, one row at a time.
use Rattle.store_open.proofs.Vocabulary.{◌≡◌, ℕ, ℤ, true, false, List, [], ◌∷◌, ◌++◌, map, Option, Some, None, IfSome, sym, ap, ap₂, subst, ◌∙◌, is_lt, int_cmp, arith, IsPermutation, AllByRecursion, ints, map-append, All-from_recursion, Int, Row, is_int, all_weaker, all-permutation, ascending-append, Has, all_has, mapped_has, ShowsNone, first_columns, ShowsSome, last_value, is_integer_below, AreRead, AreTaken, EndApart, EndsUpTo, AscendByNumber}
use Rattle.store_open.proofs.Rowids.{below_apart, AreApart}

-- ---- integers that rise

low_then : (l m n : ℤ) → is_lt (int_cmp l m) ≡ false → is_lt (int_cmp l n) ≡ true → is_lt (int_cmp m n) ≡ true
low_then l m n low above = grind (arith, ints)

low_still : (l m n : ℤ) → is_lt (int_cmp l m) ≡ false → is_lt (int_cmp l n) ≡ true → is_lt (int_cmp n m) ≡ false
low_still l m n low above = grind (arith, ints)

not_below_itself : (n : ℤ) → is_lt (int_cmp n n) ≡ false
not_below_itself n = grind (arith, ints)

apart_from : (last : Option ℤ) (n : ℤ) (b : Row) → last_value b ≡ Int n → IfSome last (λ l. is_lt (int_cmp l n) ≡ true) → (a : Row) → EndsUpTo last a → AreApart a b
apart_from None n b is above a ends = absurd ends
apart_from (Some l) n b is above a ends =
    let below : is_integer_below (last_value a) (last_value b) ≡ true = ap₂ is_integer_below ends.1 is ∙ low_then l ends.0 n ends.2 above in
    below_apart (last_value a) (last_value b) below

still_up_to : (last : Option ℤ) (n : ℤ) → IfSome last (λ l. is_lt (int_cmp l n) ≡ true) → (a : Row) → EndsUpTo last a → EndsUpTo (Some n) a
still_up_to None n above a ends = absurd ends
still_up_to (Some l) n above a ends = (ends.0, ends.1, low_still l ends.0 n ends.2 above)

ends_in_int : (last : Option ℤ) (a : Row) → EndsUpTo last a → is_int (last_value a) ≡ true
ends_in_int None a ends = absurd ends
ends_in_int (Some l) a ends = ap is_int ends.1

pub all_and_one : {X : Type 0} (P : X → Type 0) (xs : List X) (x : X) → AllByRecursion P xs → P x → AllByRecursion P (xs ++ x ∷ [])
all_and_one P [] x all one = (one, tt)
all_and_one P (y ∷ xs) x all one = (all.0, all_and_one P xs x all.1 one)

pub end_apart_more : (rows : List Row) (row : Row) (last : Option ℤ) (n : ℤ) → EndApart rows last → last_value row ≡ Int n → IfSome last (λ l. is_lt (int_cmp l n) ≡ true) → EndApart (rows ++ row ∷ []) (Some n)
end_apart_more rows row last n was is above = record {
  apart = ascending-append AreApart rows (row ∷ []) was.apart (tt, tt) (all_weaker (EndsUpTo last) _ (λ a ends. (apart_from last n row is above a ends, tt)) rows was.ends);
  ends = all_and_one (EndsUpTo (Some n)) rows row (all_weaker (EndsUpTo last) (EndsUpTo (Some n)) (still_up_to last n above) rows was.ends) (n, is, not_below_itself n);
}

pub numbers_ascend : (rows : List Row) (last : Option ℤ) → EndApart rows last → AscendByNumber rows
numbers_ascend rows last were = (were.apart, all_weaker (EndsUpTo last) (λ c. is_int (last_value c) ≡ true) (ends_in_int last) rows were.ends)

module _ {X : Type 0} (cells : X → Row) (fits : X → Type 0) (width : ℕ) where
  abbrev Taken : List Row → List X → Option ℤ → Type 0
  Taken = AreTaken cells fits width

  module _ (rows : List Row) (row : Row) where
    pub taken_more : (values : List X) (x : X) (last : Option ℤ) (n : ℤ) → Taken rows values last → last_value row ≡ Int n → IfSome last (λ l. is_lt (int_cmp l n) ≡ true)
        → fits x → first_columns width row ≡ cells x → Taken (rows ++ row ∷ []) (values ++ x ∷ []) (Some n)
    taken_more values x last n was is above fit shown = record {
      numbered = end_apart_more rows row last n was.numbered is above;
      shown = map-append (first_columns width) rows (row ∷ []) ∙ ap₂ ◌++◌ was.shown (ap (λ c. c ∷ []) shown) ∙ sym (map-append cells values (x ∷ []));
      fit = all_and_one fits values x was.fit fit;
    }

  -- ---- all rows

  pub taken_rise : (rows : List Row) (values : List X) (last : Option ℤ) → Taken rows values last → AscendByNumber rows
  taken_rise rows values last taken = numbers_ascend rows last taken.numbered

  module _ (rows shown : List Row) (same : IsPermutation shown (map (first_columns width) rows)) where
    pub taken_read : (values : List X) (last : Option ℤ) → Taken rows values last → AreRead cells fits shown values
    taken_read values last taken = record { fit = All-from_recursion fits values taken.fit; same = subst (IsPermutation shown) taken.shown same }

    pub some_untaken : (c : Row) × Has rows c × ShowsNone cells fits (first_columns width c) → ¬ AllByRecursion (ShowsSome cells fits) shown
    some_untaken it all =
        let has = mapped_has (first_columns width) rows it.0 it.1 in
        let some = all_has (ShowsSome cells fits) (map (first_columns width) rows) (first_columns width it.0) (all-permutation (ShowsSome cells fits) shown _ same all) has in
        it.2 some.0 some.1 (sym some.2)
