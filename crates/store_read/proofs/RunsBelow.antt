-- Which row the query of the last run that begins at or before an address answers.
use Rattle.store_read.proofs.Vocabulary.{◌≡◌, ◌↔◌, inl, ℕ, pos, ◌^◌, ◌<◌, ◌≤◌, Bool, false, ◌&&◌, List, [], ◌∷◌, filter, map, drop, length, take, ◌++◌, option_to_list, IsSome, Option, Some, None, IsTrue, nat_le, refl, sym, ap, subst, ◌∙◌, arith, is_lt, IsPermutation, IsSortedBy, and_parts, and_from, nat_tests, length-append, IsPermutation-sym, IsStrictWeakOrder-flip, ranks_by, sorted_far, is_ge, State, Shown, Null, Int, Text, Blob, Row, column, value_cmp, then-Equal, value_cmp-Blob, value_cmp_total, Eq, Query, IsAnswer, Output, output, overlay, lit, col, Has, contains_had, has_contained, has_filtered, has_kept, mapped_has, has_mapped, Trees, at_ints, then_term, last_term, family_eq, Family, Span, below_widest, equal_family, same_family, AllRows, desk_tables, contents, number_cell, family_number, address_bytes, holding_row, HoldsPart, holding_part, is_name_of, SELECT_RUN_BELOW, IsRunBelow, IsRowBelow, addresses_in_order, name_of-true, name_of_itself, has_permuted, of_some, in_table, from_table, picks, outputs, reads_desk, below_tests, last_first, run_below_is}
use Rattle.std.specs.Ordering.{nat_cmp}
use Rattle.sqlite_value.specs.declared.value.Value.{Value}
use Rattle.store_read.proofs.Finding.{of_contents}
use Rattle.store_read.proofs.Overlapping.{address_le, family_tested}

-- what is taken from the end of at most one
last_of_one : {X : Type 0} (ys rest : List X) (popped : Option X) → length ys < 2 → ys ≡ rest ++ option_to_list popped → (IsSome popped ↔ (0 < length ys)) → ys ≡ option_to_list popped
last_of_one [] rest None few is some = refl
last_of_one [] rest (Some x) few is some = absurd (let e = some.0 refl in omega (arith, e))
last_of_one (y ∷ []) rest None few is some = absurd (let e = some.1 (omega arith) in cc)
last_of_one (y ∷ []) [] (Some x) few is some = is
last_of_one (y ∷ []) (r ∷ rest) (Some x) few is some = absurd (let e = ap length is in let more = length-append rest (x ∷ []) in omega (arith, e, more))
last_of_one (y ∷ z ∷ ys) rest popped few is some = absurd (omega (arith, few))

abbrev below_query : Query
below_query = from_table 8 below_tests (col 1 1 ∷ col 1 2 ∷ col 1 3 ∷ col 1 4 ∷ []) last_first (lit (Int (pos 1)))

lo_below_widest : (s : Span) → s.lo < 2 ^ 128
lo_below_widest s = let high : s.hi < 2 ^ 128 = below_widest s.family s.hi s.in_family in omega (arith, s.ordered, high)

-- what a row is sorted by
abbrev key_of : Output → Value
key_of o = column o.0 0

abbrev falls : Output → Output → Bool
falls x y = is_lt (value_cmp (key_of y) (key_of x))

module _ (f : Family) (a : ℕ) (fits : a < 2 ^ 128) where
  abbrev pub below_params : Row
  below_params = number_cell (family_number f) ∷ Blob (address_bytes a) ∷ []

  -- what a row without its rowid is sorted by and shows, and whether it passes
  abbrev output_of : Row → Output
  output_of c = output below_query (below_params ∷ (Null ∷ c) ∷ [])

  abbrev passes : Row → Bool
  passes c = picks below_params below_tests (Null ∷ c)

  passes_run : (h : List ℕ) (s : Span) → passes (holding_row h s) ≡ (family_eq s.family f && nat_le s.lo a)
  passes_run h s =
      then_term (at_ints false Eq (pos (family_number s.family)) (pos (family_number f)) ∙ family_tested s.family f)
      (last_term (address_le s.lo a (lo_below_widest s) fits))

  output_alone : (r : Row) → output below_query (below_params ∷ r ∷ []) ≡ output_of (drop 1 r)
  output_alone [] = refl
  output_alone (v ∷ r) = refl

  passes_alone : (r : Row) → picks below_params below_tests r ≡ passes (drop 1 r)
  passes_alone [] = refl
  passes_alone (v ∷ r) = refl

  -- the outputs are those of the rows that pass, and fall by the first address
  record AreOutputs (table : List Row) (outs : List Output) : Type 0 where
    same : IsPermutation (map output_of (filter passes table)) outs
    sorted : IsSortedBy falls outs

  are_outputs : (db : Trees) (rows : List Row) (answer : IsAnswer below_query (overlay db []) below_params rows) → AreOutputs (contents (db 8)) answer.ordered
  are_outputs db rows answer = record {
    same =
        subst (λ l. IsPermutation l answer.ordered)
        (of_contents (λ r. output below_query (below_params ∷ r ∷ [])) output_of (picks below_params below_tests) passes output_alone passes_alone (db 8))
        (outputs 8 below_tests (col 1 1 ∷ col 1 2 ∷ col 1 3 ∷ col 1 4 ∷ []) last_first (lit (Int (pos 1))) db below_params rows answer);
    sorted = λ k d low high. ap is_lt (sym (then-Equal _)) ∙ answer.sorted k d low high;
  }

  module _ (all : AllRows) (table : List Row) (holds : HoldsPart holding_part all.of_holder table) where
    -- a run that begins so is among the outputs
    run_shown : (outs : List Output) → AreOutputs table outs → (h : List ℕ) (s : Span) → IsRunBelow all f a h s → Has outs (output_of (holding_row h s))
    run_shown outs are h s run =
        let there = in_table holding_part all.of_holder table holds (holding_row h s) h run.held.0 run.held.1 (mapped_has (holding_row h) run.held.0.holdings s (has_contained run.held.0.holdings s run.held.2)) in
        let begins = run.begins in
        let goes = passes_run h s ∙ and_from _ _ (equal_family s.family f run.family) (grind (arith, nat_tests)) in
        has_permuted _ outs _ are.same (mapped_has output_of (filter passes table) (holding_row h s) (has_kept passes table (holding_row h s) there goes))

    -- an output is that of a run that begins so
    shown_run : (outs : List Output) → AreOutputs table outs → (o : Output) → Has outs o → (h : List ℕ) × (s : Span) × IsRunBelow all f a h s × (o ≡ output_of (holding_row h s))
    shown_run outs are o there =
        let row = has_mapped output_of (filter passes table) o (has_permuted outs _ o (IsPermutation-sym _ _ are.same) there) in
        let kept = has_filtered passes table row.0 row.1 in
        let mine = of_some holding_part all.of_holder table holds row.0 kept.0 in
        let run = has_mapped (holding_row mine.0) mine.1.holdings row.0 mine.3 in
        let s = run.0 in
        let tests = and_parts _ _ (sym (passes_run mine.0 s) ∙ ap passes (sym run.2) ∙ kept.1) in
        let below = tests.1 in
        (mine.0, s, record { held = (mine.1, mine.2, contains_had mine.1.holdings s run.1); family = same_family s.family f tests.0; begins = grind (arith, nat_tests) }, row.2 ∙ ap output_of run.2)

    -- no output is of a later run than the first one
    none_later : (o : Output) (outs : List Output) → IsSortedBy falls (o ∷ outs) → (p : Output) → Has (o ∷ outs) p → falls p o ≡ false
    none_later o outs sorted p there =
        let at = contains_had (o ∷ outs) p there in
        subst (λ x. falls x o ≡ false) at.2 (sorted_far falls (IsStrictWeakOrder-flip _ (ranks_by value_cmp_total key_of)) (o ∷ outs) sorted 0 at.0 p (omega arith) at.1)

    begins_later : (h k : List ℕ) (s t : Span) → falls (output_of (holding_row k t)) (output_of (holding_row h s)) ≡ false → t.lo ≤ s.lo
    begins_later h k s t later =
        let order : is_lt (nat_cmp s.lo t.lo) ≡ false = ap is_lt (sym (value_cmp-Blob (address_bytes s.lo) (address_bytes t.lo) ∙ addresses_in_order s.lo t.lo (lo_below_widest s) (lo_below_widest t))) ∙ later in
        grind (arith, nat_tests)

    row_below : (outs : List Output) → AreOutputs table outs → (popped : Option Row) → take 1 (map (λ (o : Output). o.1) outs) ≡ option_to_list popped → IsRowBelow all f a popped
    row_below [] are None is = λ h s run. run_shown [] are h s run
    row_below [] are (Some row) is = absurd cc
    row_below (o ∷ outs) are None is = absurd cc
    row_below (o ∷ outs) are (Some row) is =
        let first = shown_run (o ∷ outs) are o (inl refl) in
        let h = first.0 in
        let s = first.1 in
        let shown : o.1 ≡ row = cc in (
          h,
          s,
          record {
            is = first.2;
            last = λ k t run. begins_later h k s t (subst (λ x. falls (output_of (holding_row k t)) x ≡ false) first.3 (none_later o outs are.sorted (output_of (holding_row k t)) (run_shown (o ∷ outs) are k t run)));
          },
          sym shown ∙ ap (λ (x : Output). x.1) first.3,
        )

  -- what is taken from the end of the answer
  pub found_below :
      (old new : State) (has : IsTrue old.is_open → old.now.schema.tables ≡ desk_tables) (params : Row) (is : params ≡ below_params) (rows : List Row) → Shown SELECT_RUN_BELOW.now params old new rows
      → (rest : List Row) (popped : Option Row) → rows ≡ rest ++ option_to_list popped → (IsSome popped ↔ (0 < length rows))
      → (all : AllRows) → HoldsPart holding_part all.of_holder (contents (old.now.trees 8)) → IsRowBelow all f a popped
  found_below old new has params is rows shown rest popped popped_is some all holds =
      let of_params = subst (λ v. Shown SELECT_RUN_BELOW.now v old new rows) is shown in
      let answer = (reads_desk run_below_is below_params old new rows has of_params).answer Null in
      let firsts = map (λ (o : Output). o.1) answer.ordered in
      let one = last_of_one rows rest popped (subst (λ l. length l < 2) (sym answer.shown) (few firsts)) popped_is some in
      row_below all _ holds answer.ordered (are_outputs old.now.trees rows answer) popped (sym answer.shown ∙ one)
    where
      few : (xs : List Row) → length (take 1 xs) < 2
      few [] = omega arith
      few (x ∷ xs) = omega arith

-- ---- what the cells of the row of a run say

pub holder_told : (k : List ℕ) (row : Row) (h : List ℕ) (s : Span) → row ≡ holding_row h s → IsTrue (is_name_of k (column row 3)) ↔ (h ≡ k)
holder_told k row h s is =
    let cell : column row 3 ≡ Text h = ap (λ r. column r 3) is in
    (λ named. let same = sym cell ∙ name_of-true k (column row 3) named in cc, λ same. name_of_itself k (column row 3) (cell ∙ ap Text same))

is_ge-nat_le : (a b : ℕ) → is_ge (nat_cmp a b) ≡ nat_le b a
is_ge-nat_le a b = grind (arith, nat_tests)

pub end_told : (a : ℕ) (row : Row) (h : List ℕ) (s : Span) → a < 2 ^ 128 → row ≡ holding_row h s → IsTrue (is_ge (value_cmp (column row 2) (Blob (address_bytes a)))) ↔ (a ≤ s.hi)
end_told a row h s fits is =
    let order = ap (λ r. is_ge (value_cmp (column r 2) (Blob (address_bytes a)))) is ∙ ap is_ge (value_cmp-Blob (address_bytes s.hi) (address_bytes a) ∙ addresses_in_order s.hi a (below_widest s.family s.hi s.in_family) fits) ∙ is_ge-nat_le s.hi a in
    (λ ends. let told = sym order ∙ ends in grind (arith, nat_tests), λ ends. order ∙ grind (arith, nat_tests))
