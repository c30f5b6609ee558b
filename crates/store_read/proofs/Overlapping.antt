-- Whether a run of some holder shares an address with a prefix.
use Rattle.store_read.proofs.Vocabulary.{◌≡◌, ◌↔◌, ℕ, suc, pos, ◌-◌, ◌^◌, ◌<◌, ◌==◌, Bool, true, false, not, ◌||◌, cond, List, [], ◌∷◌, filter, drop, length, take, IsTrue, nat_le, is_le, nat_cmp, int_eq, refl, sym, ap, subst, ◌∙◌, arith, pow_pos, list_any, nat_tests, State, Shown, Binary, Null, Int, Blob, Row, Eq, Le, Ge, Compare, binary, is_true, lit, some_has, some_from, mapped_has, has_mapped, at_ints, at_blobs, then_term, last_term, width, family_eq, last_of, span_meets, Family, Prefix, Span, below_widest, first_below, AllRows, desk_tables, contents, number_cell, family_number, address_bytes, holding_row, HoldsPart, holding_part, SELECT_OVERLAP, MeetsSome, addresses_in_order, of_some, in_table, picks, first_shown, reads_desk, overlap_tests, overlap_is}
use Rattle.addr.specs.declared.family.Family.TheVariants.{V4, V6}

pub family_tested : (f g : Family) → int_eq (pos (family_number f)) (pos (family_number g)) ≡ family_eq f g
family_tested V4 V4 = refl
family_tested V4 V6 = refl
family_tested V6 V4 = refl
family_tested V6 V6 = refl

le_is : (a b : ℕ) → is_le (nat_cmp a b) ≡ nat_le a b
le_is a b = grind (arith, nat_tests)

pub address_le : (a b : ℕ) → a < 2 ^ 128 → b < 2 ^ 128 → is_true (binary (Compare Le Binary) (Blob (address_bytes a)) (Blob (address_bytes b))) ≡ nat_le a b
address_le a b low high = at_blobs false Le (address_bytes a) (address_bytes b) ∙ ap is_le (addresses_in_order a b low high) ∙ le_is a b

address_ge : (a b : ℕ) → a < 2 ^ 128 → b < 2 ^ 128 → is_true (binary (Compare Ge Binary) (Blob (address_bytes a)) (Blob (address_bytes b))) ≡ nat_le b a
address_ge a b low high = at_blobs false Ge (address_bytes a) (address_bytes b) ∙ ap is_le (addresses_in_order b a high low) ∙ le_is b a

pub last_fits : (p : Prefix) → last_of p < 2 ^ 128
last_fits p = below_widest p.family (last_of p) (omega (arith, p.in_family, pow_pos (width p.family - p.length)))

-- ---- runs that share an address with a prefix

abbrev pub run_params : Prefix → Row
run_params p = number_cell (family_number p.family) ∷ Blob (address_bytes p.first) ∷ Blob (address_bytes (last_of p)) ∷ []

-- a row without its rowid passes
abbrev overlaps : Prefix → Row → Bool
overlaps p c = picks (run_params p) overlap_tests (Null ∷ c)

columns_alone : (p : Prefix) (r : Row) → picks (run_params p) overlap_tests r ≡ overlaps p (drop 1 r)
columns_alone p [] = refl
columns_alone p (v ∷ r) = refl

overlaps_run : (p : Prefix) (h : List ℕ) (s : Span) → overlaps p (holding_row h s) ≡ span_meets s p
overlaps_run p h s =
    let begins : p.first < 2 ^ 128 = below_widest p.family p.first (first_below p) in
    let high : s.hi < 2 ^ 128 = below_widest s.family s.hi s.in_family in
    let low : s.lo < 2 ^ 128 = omega (arith, s.ordered, high) in
    then_term (at_ints false Eq (pos (family_number s.family)) (pos (family_number p.family)) ∙ family_tested s.family p.family)
    (then_term (address_le s.lo (last_of p) low (last_fits p)) (last_term (address_ge s.hi p.first high begins)))

not_zero : (m : ℕ) → (suc m == 0) ≡ false
not_zero m = grind (arith, nat_tests)

-- an answer of at most one row has one where some row passes
one_or_none : {X Y : Type 0} (n : List X) (f : List Y) → length n ≡ length f → (length (take 1 n) == 0) ≡ (length f == 0)
one_or_none [] f same = ap (λ m. m == 0) same
one_or_none (x ∷ n) f same = not_zero 0 ∙ sym (not_zero (length n)) ∙ ap (λ m. m == 0) same

some_pass : (picked goes : Row → Bool) → ((r : Row) → picked r ≡ goes (drop 1 r)) → (tree : List Row) → not (length (filter picked tree) == 0) ≡ list_any goes (contents tree)
some_pass picked goes same [] = refl
some_pass picked goes same (r ∷ tree) = (λ i. not (length (cond (same r i) (r ∷ filter picked tree) (filter picked tree)) == 0)) ∙ go (goes (drop 1 r)) (some_pass picked goes same tree)
  where
    go : (b : Bool) → not (length (filter picked tree) == 0) ≡ list_any goes (contents tree) → not (length (cond b (r ∷ filter picked tree) (filter picked tree)) == 0) ≡ (b || list_any goes (contents tree))
    go true more = ap not (not_zero (length (filter picked tree)))
    go false more = more

module _ (p : Prefix) (all : AllRows) (table : List Row) (holds : HoldsPart holding_part all.of_holder table) where
  meets_some : list_any (overlaps p) table ≡ true → MeetsSome all p
  meets_some any =
      let found = some_has (overlaps p) table any in
      let mine = of_some holding_part all.of_holder table holds found.0 found.1 in
      let run = has_mapped (holding_row mine.0) mine.1.holdings found.0 mine.3 in
      (mine.0, mine.1, mine.2, some_from (λ s. span_meets s p) mine.1.holdings run.0 run.1 (sym (overlaps_run p mine.0 run.0) ∙ ap (overlaps p) (sym run.2) ∙ found.2))

  some_meets : MeetsSome all p → list_any (overlaps p) table ≡ true
  some_meets it =
      let run = some_has (λ s. span_meets s p) it.1.holdings it.3 in
      some_from (overlaps p) table (holding_row it.0 run.0) (in_table holding_part all.of_holder table holds (holding_row it.0 run.0) it.0 it.1 it.2 (mapped_has (holding_row it.0) it.1.holdings run.0 run.1)) (overlaps_run p it.0 run.0 ∙ run.2)

module _ (p : Prefix) (old new : State) (has : IsTrue old.is_open → old.now.schema.tables ≡ desk_tables) (params : Row) (is : params ≡ run_params p) (rows : List Row) (shown : Shown SELECT_OVERLAP.now params old new rows) where
  not_empty : not (length rows == 0) ≡ list_any (overlaps p) (contents (old.now.trees 8))
  not_empty =
      let of_run = subst (λ v. Shown SELECT_OVERLAP.now v old new rows) is shown in
      let read = reads_desk overlap_is (run_params p) old new rows has of_run in
      let first = first_shown 8 overlap_tests (lit (Int (pos 1)) ∷ []) old.now.trees (run_params p) rows (read.answer Null) in
      ap not (ap (λ l. length l == 0) first.2 ∙ one_or_none first.0 _ first.1) ∙ some_pass (picks (run_params p) overlap_tests) (overlaps p) (columns_alone p) (old.now.trees 8)

  pub overlap-iff : (empty : Bool) (count : ℕ) → count ≡ length rows → empty ≡ (count == 0) → (all : AllRows) → HoldsPart holding_part all.of_holder (contents (old.now.trees 8)) → IsTrue (not empty) ↔ MeetsSome all p
  overlap-iff empty count counted is all holds =
      let same : not empty ≡ list_any (overlaps p) (contents (old.now.trees 8)) = ap not (is ∙ ap (λ n. n == 0) counted) ∙ not_empty in
      (λ yes. meets_some p all _ holds (sym same ∙ yes), λ some. same ∙ some_meets p all _ holds some)
