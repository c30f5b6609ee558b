-- A table of exceptions in range, each at a place of its own, holds the files of them.
use Rattle.store_transactions.proofs.Vocabulary.{◌≡◌, ℕ, ◌+◌, ◌<◌, ◌≤◌, ◌==◌, Bool, true, not, List, [], ◌∷◌, map, filter, length, All, IsTrue, Less, refl, sym, ap, subst, ◌∙◌, arith, IsPermutation, Equal, slice_cmp, AllByRecursion, filter_map, nat_cmp, eqb-true, nat_list_cmp_total, nat_cmp_total, tied_itself, length-map, All-from_recursion, recursion_from_All, All-permutation, IsPermutation-filter_both, IsPermutation-map, IsPermutation-sym, IsPermutation-trans, length_permutation, Row, column, IsAscending, all_both, all_from_map, all-filter, all-map, all_of, all-permutation, all_weaker, ascending-filter, filter-map, filter_same, IsPermutation-filter, Has, all_from, all_has, has_filtered, is_name, FileFits, FilesFit, FilterFits, VrpFits, same_name-true, Exceptions, MOST_ENTRIES, NamedSlurm, Exception, ExceptionRow, exception_row, kind_number, ExceptionFits, ExceptionRowFits, exception_columns, ArePlaced, HoldsExceptions, HoldsFiles, is_of_file, is_text, name_of_text, AreFewOfEach, ShowsExceptions, AreFew, AreFilesIn, RiseByPlace, assertion_if, exceptions_in, filter_if, is_in_file}
use Rattle.store_tables.specs.declared.exception.Exception.TheVariants.{Filter as FilterOf, Assertion}
use Rattle.store_transactions.proofs.Ascending.{ascending_where}
use Rattle.store_transactions.proofs.FilesIn.{IsBefore, ascends}
use Rattle.store_transactions.proofs.NamedFiles.{said}

-- ---- exceptions of one kind

abbrev of_kind : ℕ → List ExceptionRow → List ExceptionRow
of_kind kind = filter (λ (r : ExceptionRow). kind_number r.exception == kind)

abbrev brings : ExceptionRow → Exception
brings r = r.exception

brought_filters : (rows : List ExceptionRow) → map brings (of_kind 1 rows) ≡ map FilterOf (filter_map filter_if rows)
brought_filters [] = refl
brought_filters (r ∷ rows) = go r.exception (brought_filters rows)
  where
    go : (e : Exception) → map brings (of_kind 1 rows) ≡ map FilterOf (filter_map filter_if rows)
        → map brings (of_kind 1 (record r { exception = e } ∷ rows)) ≡ map FilterOf (filter_map filter_if (record r { exception = e } ∷ rows))
    go (FilterOf f) same = ap (λ l. FilterOf f ∷ l) same
    go (Assertion v) same = same

brought_assertions : (rows : List ExceptionRow) → map brings (of_kind 2 rows) ≡ map Assertion (filter_map assertion_if rows)
brought_assertions [] = refl
brought_assertions (r ∷ rows) = go r.exception (brought_assertions rows)
  where
    go : (e : Exception) → map brings (of_kind 2 rows) ≡ map Assertion (filter_map assertion_if rows)
        → map brings (of_kind 2 (record r { exception = e } ∷ rows)) ≡ map Assertion (filter_map assertion_if (record r { exception = e } ∷ rows))
    go (FilterOf f) same = same
    go (Assertion v) same = ap (λ l. Assertion v ∷ l) same

other_kind : (e : Exception) → (kind_number e == 2) ≡ not (kind_number e == 1)
other_kind (FilterOf f) = refl
other_kind (Assertion v) = refl

filters_fit : (rows : List ExceptionRow) → AllByRecursion ExceptionRowFits rows → AllByRecursion FilterFits (filter_map filter_if rows)
filters_fit [] fit = tt
filters_fit (r ∷ rows) fit = go r.exception fit.0.exception (filters_fit rows fit.1)
  where
    go : (e : Exception) → ExceptionFits e → AllByRecursion FilterFits (filter_map filter_if rows) → AllByRecursion FilterFits (filter_map filter_if (record r { exception = e } ∷ rows))
    go (FilterOf f) fits all = (fits, all)
    go (Assertion v) fits all = all

assertions_fit : (rows : List ExceptionRow) → AllByRecursion ExceptionRowFits rows → AllByRecursion VrpFits (filter_map assertion_if rows)
assertions_fit [] fit = tt
assertions_fit (r ∷ rows) fit = go r.exception fit.0.exception (assertions_fit rows fit.1)
  where
    go : (e : Exception) → ExceptionFits e → AllByRecursion VrpFits (filter_map assertion_if rows) → AllByRecursion VrpFits (filter_map assertion_if (record r { exception = e } ∷ rows))
    go (FilterOf f) fits all = all
    go (Assertion v) fits all = (fits, all)

abbrev IsOf : List ℕ → ℕ → ExceptionRow → Type 0
IsOf name kind r = (r.file ≡ name) × (kind_number r.exception ≡ kind)

abbrev IsLower : ExceptionRow → ExceptionRow → Type 0
IsLower r s = r.position < s.position

-- of one file and kind, places rise by position
lower : (name : List ℕ) (kind : ℕ) (r s : ExceptionRow) → IsOf name kind r → IsOf name kind s → IsBefore r s → IsLower r s
lower name kind r s one other before =
    let files : slice_cmp nat_cmp r.file s.file ≡ Equal = ap (λ n. slice_cmp nat_cmp n s.file) (one.0 ∙ sym other.0) ∙ tied_itself nat_list_cmp_total s.file in
    let kinds : nat_cmp (kind_number r.exception) (kind_number s.exception) ≡ Equal = ap (λ n. nat_cmp n (kind_number s.exception)) (one.1 ∙ sym other.1) ∙ tied_itself nat_cmp_total (kind_number s.exception) in
    below r.position s.position (rw kinds at (rw files at before))
  where
    below : (m n : ℕ) → nat_cmp m n ≡ Less → m < n
    below m n less = grind (arith, less)

-- the exceptions of one kind, of those of one file
module _ (name : List ℕ) (rows : List ExceptionRow) (up : IsAscending IsBefore rows) (fit : AllByRecursion ExceptionRowFits rows) (kind : ℕ) where
  abbrev is_of : ExceptionRow → Bool
  is_of r = kind_number r.exception == kind

  abbrev kept : List ExceptionRow
  kept = filter is_of (filter (is_in_file name) rows)

  are_of : AllByRecursion (IsOf name kind) kept
  are_of = all_from (IsOf name kind) kept (λ r has.
      let one = has_filtered is_of (filter (is_in_file name) rows) r has in
      (same_name-true r.file name (has_filtered (is_in_file name) rows r one.0).1, eqb-true (kind_number r.exception) kind one.1))

  placed : (exceptions : List Exception) → map brings kept ≡ exceptions → ArePlaced name exceptions kept
  placed exceptions is = record {
    named = all_weaker (IsOf name kind) _ (λ r of. of.0) kept are_of;
    brought = is;
    positions = all_weaker ExceptionRowFits _ (λ r fits. fits.position) kept (all-filter ExceptionRowFits is_of _ (all-filter ExceptionRowFits (is_in_file name) rows fit));
    rise = ascending_where (IsOf name kind) IsBefore IsLower (lower name kind) kept are_of (ascending-filter IsBefore is_of _ (ascending-filter IsBefore (is_in_file name) rows up));
  }

-- ---- the table

rows_of_file : (name : List ℕ) (rows : List ExceptionRow) → filter (is_of_file name) (map exception_row rows) ≡ map exception_row (filter (is_in_file name) rows)
rows_of_file name rows =
    filter-map (is_of_file name) exception_row rows
    ∙ ap (map exception_row) (filter_same (λ r. is_of_file name (exception_row r)) (is_in_file name) rows (all_of _ (λ (r : ExceptionRow). name_of_text name r.file) rows))

module _ (rows : List ExceptionRow) (table : List Row) (shows : ShowsExceptions rows table) where
  abbrev table_of : List ℕ → List Row
  table_of name = filter (is_of_file name) table

  shown_of : (name : List ℕ) → IsPermutation (map exception_columns (table_of name)) (map exception_row (filter (is_in_file name) rows))
  shown_of name =
      subst (λ l. IsPermutation l (map exception_row (filter (is_in_file name) rows))) (filter-map (is_of_file name) exception_columns table)
      (subst (IsPermutation (filter (is_of_file name) (map exception_columns table))) (rows_of_file name rows) (IsPermutation-filter (is_of_file name) _ _ shows.same))

  -- a table has as many rows of a file as there are exceptions
  pub few_shown : AreFewOfEach table → AreFew rows
  few_shown few name =
      let number = length_permutation _ _ (shown_of name) in
      omega (arith, few name, number, length-map (table_of name) exception_columns, length-map (filter (is_in_file name) rows) exception_row)

  module _ (up : RiseByPlace rows) (files : List NamedSlurm) (are : AreFilesIn rows files) where
    abbrev mine : List ℕ → List ExceptionRow
    mine name = filter (is_in_file name) rows

    fit : AllByRecursion ExceptionRowFits rows
    fit = recursion_from_All ExceptionRowFits rows shows.fit

    holds : (name : List ℕ) → HoldsExceptions name (exceptions_in (mine name)) (table_of name)
    holds name =
        let both = IsPermutation-filter_both _ _ (λ (r : ExceptionRow). other_kind r.exception) (mine name) in
        record {
          filters = of_kind 1 (mine name);
          assertions = of_kind 2 (mine name);
          filters_placed = placed name rows (ascends rows up) fit 1 _ (brought_filters (mine name));
          assertions_placed = placed name rows (ascends rows up) fit 2 _ (brought_assertions (mine name));
          rows = IsPermutation-trans _ _ _ (IsPermutation-map exception_row _ _ (IsPermutation-sym _ _ both)) (IsPermutation-sym _ _ (shown_of name));
        }

    pub files_shown : HoldsFiles files table
    files_shown = record {
      rising = are.rising;
      some = are.some;
      each = λ name. subst (λ (e : Exceptions). HoldsExceptions name e (table_of name)) (sym (are.each name)) (holds name);
      named = all_from_map (λ c. is_text (column c 0) ≡ true) exception_columns table (all-permutation (λ c. is_text (column c 0) ≡ true) _ _ (IsPermutation-sym _ _ shows.same) (all-map _ exception_row rows (all_of _ (λ r. refl) rows)));
    }

    -- the file of a name says what its exceptions do
    file_says : AllByRecursion (λ (f : NamedSlurm). exceptions_in (mine f.name) ≡ f.file) files
    file_says = all_weaker _ (λ (f : NamedSlurm). exceptions_in (mine f.name) ≡ f.file) (λ f is. sym (are.each f.name) ∙ is) files (said files are.rising)

    pub files_fit : FilesFit files
    files_fit =
        All-from_recursion FileFits files
        (all_both _ _ FileFits (λ f few rest. one f few rest.0 rest.1) files are.few
        (all_both _ _ (λ (f : NamedSlurm). (exceptions_in (mine f.name) ≡ f.file) × ((r : ExceptionRow) × _ × (r.file ≡ f.name))) (λ f is from. (is, from)) files file_says are.among))
      where
        one : (f : NamedSlurm) → length f.file.filters + length f.file.assertions ≤ MOST_ENTRIES → exceptions_in (mine f.name) ≡ f.file → (r : ExceptionRow) × Has rows r × (r.file ≡ f.name) → FileFits f
        one f few is from =
            let here = all-filter ExceptionRowFits (is_in_file f.name) rows fit in
            record {
              name = subst (λ n. IsTrue (is_name n)) from.2 (all_has ExceptionRowFits rows from.0 fit from.1).file;
              file = record {
                number = few;
                filters = subst (λ (e : Exceptions). All FilterFits e.filters) is (All-from_recursion FilterFits _ (filters_fit (mine f.name) here));
                assertions = subst (λ (e : Exceptions). All VrpFits e.assertions) is (All-from_recursion VrpFits _ (assertions_fit (mine f.name) here));
              };
            }

-- the same exceptions in another order
pub shown_moved : (rows moved : List ExceptionRow) (table : List Row) → IsPermutation rows moved → ShowsExceptions rows table → ShowsExceptions moved table
shown_moved rows moved table same shows = record {
  fit = All-permutation ExceptionRowFits rows moved same shows.fit;
  same = IsPermutation-trans _ _ _ shows.same (IsPermutation-map exception_row rows moved same);
}
