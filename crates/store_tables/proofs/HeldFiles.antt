-- The rows of SLURM files that a table holds.
use Rattle.store_tables.proofs.Vocabulary.{◌≡◌, ℕ, ◌+◌, ◌^◌, ◌<◌, ◌≤◌, Bool, true, false, cond, List, [], ◌∷◌, ◌++◌, length, map, flat_map, filter, refl, sym, ap, ap₂, subst, ◌∙◌, append-nil, IsPermutation, nat_lt, ◌||◌, arith, AllByRecursion, enumerate_from, both_ways, lt-ltb, or_left, length-map, map-append, filter-append, filter_passes, recursion_from_All, IsPermutation-map, IsPermutation-refl, Row, column, IsAscending, map-map, all_of, all_weaker, all-append, all-map, all-permutation, filter_all, filter_none, IsPermutation-filter, Vrp, same_name, same_name-true, same_name-false, Exceptions, Under, By, Both, Exception, Assertion, ExceptionRow, exception_row, IsPosition, exception_columns, ArePlaced, HoldsExceptions, HoldsFiles, HoldsFromOne, at_positions, file_rows, is_of_file, is_text}
use Rattle.std.specs.List.{IsDistinct}
use Rattle.std.specs.List.Sorted.{IsStrictlySortedBy}
use Rattle.std.proofs.lemmas.List.Kept.{IsStrictlySortedBy-filter}
use Rattle.slurm.specs.SlurmSets.{name_cmp, exceptions_named, has_entries, with_entries, AreNamedOnce, RiseByName}
use Rattle.slurm.specs.declared.exceptions.TheConstants.{MOST_ENTRIES}
use Rattle.slurm.specs.declared.filter.Filter.{Filter}
use Rattle.slurm.specs.declared.set.NamedSlurm.{NamedSlurm}
use Rattle.slurm.proofs.RisingNames.{rising_once}
use Rattle.store_tables.specs.declared.exception.Exception.TheVariants.{Filter as FilterOf}
use Rattle.store_tables.proofs.PartLemmas.{name_of_text}

-- ---- no exceptions, and no files

abbrev nothing : Exceptions
nothing = record { filters = []; assertions = [] }

pub nothing_held : (name : List ℕ) → HoldsExceptions name nothing []
nothing_held name =
    let placed : ArePlaced name [] [] = record { named = tt; brought = refl; positions = tt; rise = tt } in
    record { filters = []; assertions = []; filters_placed = placed; assertions_placed = placed; rows = IsPermutation-refl [] }

none_rise : RiseByName []
unfolding IsStrictlySortedBy
none_rise = tt

pub no_files_held : HoldsFiles [] []
no_files_held = record { rising = none_rise; some = tt; each = nothing_held; named = tt }

-- ---- the rows of an exception

exception_shown : (r : ExceptionRow) → exception_columns (exception_row r) ≡ exception_row r
exception_shown r = go r.exception
  where
    go : (e : Exception) → exception_columns (exception_row (record r { exception = e })) ≡ exception_row (record r { exception = e })
    go (FilterOf (Under p)) = refl
    go (FilterOf (By asn)) = refl
    go (FilterOf (Both p asn)) = refl
    go (Assertion v) = refl

all_shown : (rows : List ExceptionRow) → map exception_columns (map exception_row rows) ≡ map exception_row rows
all_shown rows = map-map exception_columns exception_row rows ∙ (λ i. map (λ r. exception_shown r i) rows)

-- ---- the rows of one kind of a file, from a position on

module _ (name : List ℕ) where
  abbrev pub placed_from : ℕ → List Exception → List ExceptionRow
  placed_from at xs = map (λ (e : ℕ × Exception). let row : ExceptionRow = record { file = name; position = e.0; exception = e.1 } in row) (enumerate_from at xs)

  all_named : (at : ℕ) (xs : List Exception) → AllByRecursion (λ (r : ExceptionRow). r.file ≡ name) (placed_from at xs)
  all_named at [] = tt
  all_named at (x ∷ xs) = (refl, all_named (at + 1) xs)

  brought : (at : ℕ) (xs : List Exception) → map (λ (r : ExceptionRow). r.exception) (placed_from at xs) ≡ xs
  brought at [] = refl
  brought at (x ∷ xs) = ap (λ l. x ∷ l) (brought (at + 1) xs)

  in_range : (at : ℕ) (xs : List Exception) → 0 < at → at + length xs ≤ 2 ^ 32 → AllByRecursion (λ (r : ExceptionRow). IsPosition r.position) (placed_from at xs)
  in_range at [] some low = tt
  in_range at (x ∷ xs) some low = ((omega (arith, some), omega (arith, low)), in_range (at + 1) xs (omega arith) (omega (arith, low)))

  above : (n at : ℕ) (xs : List Exception) → n < at → AllByRecursion (λ (r : ExceptionRow). n < r.position) (placed_from at xs)
  above n at [] low = tt
  above n at (x ∷ xs) low = (low, above n (at + 1) xs (omega (arith, low)))

  rise : (at : ℕ) (xs : List Exception) → IsAscending (λ (a b : ExceptionRow). a.position < b.position) (placed_from at xs)
  rise at [] = tt
  rise at (x ∷ xs) = (above at (at + 1) xs (omega arith), rise (at + 1) xs)

  pub placed : (xs : List Exception) → length xs ≤ MOST_ENTRIES → ArePlaced name xs (at_positions name xs)
  placed xs few = record { named = all_named 1 xs; brought = brought 1 xs; positions = in_range 1 xs (omega arith) (omega (arith, few)); rise = rise 1 xs }

-- ---- the rows of the file of a name

-- a file has no more entries than it may have
abbrev pub AreFew : Exceptions → Type 0
AreFew file = length file.filters + length file.assertions ≤ MOST_ENTRIES

-- the rows of a file, by its name and what it says
abbrev rows_of : List ℕ → Exceptions → List Row
rows_of name file = let f : NamedSlurm = record { name = name; file = file } in map exception_row (file_rows f)

absent : (name : List ℕ) (files : List NamedSlurm) → AllByRecursion (λ (g : NamedSlurm). same_name name g.name ≡ false) files → exceptions_named files name ≡ nothing
absent name [] all = refl
absent name (g ∷ rest) all = rw (same_name-false name g.name all.0) (absent name rest all.1)

-- a file of a name that none of these has is the only one of that name
only_one : (f : NamedSlurm) (rest : List NamedSlurm) (name : List ℕ) → AllByRecursion (λ (g : NamedSlurm). same_name f.name g.name ≡ false) rest → same_name f.name name ≡ true → exceptions_named rest name ≡ nothing
only_one f rest name apart is = subst (λ n. exceptions_named rest n ≡ nothing) (same_name-true f.name name is) (absent f.name rest apart)

module _ (name : List ℕ) where
  of_file : (f : NamedSlurm) → AllByRecursion (λ c. is_of_file name c ≡ same_name f.name name) (map exception_row (file_rows f))
  of_file f =
      let named = all-append _ (at_positions f.name (map FilterOf f.file.filters)) (at_positions f.name (map Assertion f.file.assertions)) (all_named f.name 1 (map FilterOf f.file.filters)) (all_named f.name 1 (map Assertion f.file.assertions)) in
      all-map _ exception_row (file_rows f) (all_weaker (λ (r : ExceptionRow). r.file ≡ f.name) _ (λ r is. name_of_text name r.file ∙ ap (λ n. same_name n name) is) (file_rows f) named)

  -- all rows of a file are picked by its name, and none by another
  picked : (f : NamedSlurm) → filter (is_of_file name) (map exception_row (file_rows f)) ≡ cond (same_name f.name name) (map exception_row (file_rows f)) []
  picked f = go (same_name f.name name) (of_file f)
    where
      go : (b : Bool) → AllByRecursion (λ c. is_of_file name c ≡ b) (map exception_row (file_rows f)) → filter (is_of_file name) (map exception_row (file_rows f)) ≡ cond b (map exception_row (file_rows f)) []
      go true all = filter_all (is_of_file name) _ all
      go false all = filter_none (is_of_file name) _ all

  rows_of_name : (files : List NamedSlurm) → AreNamedOnce files → filter (is_of_file name) (map exception_row (flat_map file_rows files)) ≡ rows_of name (exceptions_named files name)
  unfolding IsDistinct
  rows_of_name [] once = refl
  rows_of_name (f ∷ rest) once =
      ap (filter (is_of_file name)) (map-append exception_row (file_rows f) (flat_map file_rows rest))
      ∙ filter-append (is_of_file name) (map exception_row (file_rows f)) (map exception_row (flat_map file_rows rest))
      ∙ ap₂ ◌++◌ (picked f) (rows_of_name rest once.1)
      ∙ go (same_name f.name name) refl
    where
      go : (b : Bool) → same_name f.name name ≡ b → cond b (map exception_row (file_rows f)) [] ++ rows_of name (exceptions_named rest name) ≡ rows_of name (cond b f.file (exceptions_named rest name))
      go false is = refl
      go true is =
          ap (λ file. map exception_row (file_rows f) ++ rows_of name file) (only_one f rest name once.0 is)
          ∙ append-nil (map exception_row (file_rows f))
          ∙ ap (λ n. rows_of n f.file) (same_name-true f.name name is)

  few_of_name : (files : List NamedSlurm) → AllByRecursion (λ (f : NamedSlurm). AreFew f.file) files → AreFew (exceptions_named files name)
  few_of_name [] few = omega arith
  few_of_name (f ∷ rest) few = go (same_name f.name name) (few_of_name rest few.1)
    where
      go : (b : Bool) → AreFew (exceptions_named rest name) → AreFew (cond b f.file (exceptions_named rest name))
      go true later = few.0
      go false later = later

-- ---- files without entries

empty_says_nothing : (file : Exceptions) → has_entries file ≡ false → file ≡ nothing
empty_says_nothing file none = go file.filters file.assertions none
  where
    go : (filters : List Filter) (assertions : List Vrp) → (nat_lt 0 (length filters) || nat_lt 0 (length assertions)) ≡ false
        → (let both : Exceptions = record { filters = filters; assertions = assertions } in both) ≡ nothing
    go [] [] none = refl
    go [] (v ∷ assertions) none = absurd (both_ways _ none (lt-ltb 0 (length (v ∷ assertions)) (omega arith)))
    go (x ∷ filters) assertions none = absurd (both_ways _ none (or_left _ (nat_lt 0 (length assertions)) (lt-ltb 0 (length (x ∷ filters)) (omega arith))))

-- a name says the same where files without entries are left out
pub same_exceptions : (files : List NamedSlurm) → AreNamedOnce files → (name : List ℕ) → exceptions_named (with_entries files) name ≡ exceptions_named files name
unfolding IsDistinct
same_exceptions [] once name = refl
same_exceptions (f ∷ rest) once name = go (has_entries f.file) refl (same_exceptions rest once.1 name)
  where
    no_entries : (b : Bool) → same_name f.name name ≡ b → has_entries f.file ≡ false → exceptions_named rest name ≡ cond b f.file (exceptions_named rest name)
    no_entries true is none = only_one f rest name once.0 is ∙ sym (empty_says_nothing f.file none)
    no_entries false is none = refl

    go : (b : Bool) → has_entries f.file ≡ b → exceptions_named (with_entries rest) name ≡ exceptions_named rest name → exceptions_named (cond b (f ∷ with_entries rest) (with_entries rest)) name ≡ exceptions_named (f ∷ rest) name
    go true is later = ap (cond (same_name f.name name) f.file) later
    go false none later = later ∙ no_entries (same_name f.name name) refl none

-- ---- a table of the rows of files

-- it holds those of the files that have entries
pub files_held : (files : List NamedSlurm) (table : List Row) → RiseByName files → AllByRecursion (λ (f : NamedSlurm). AreFew f.file) files → HoldsFromOne files table → HoldsFiles (with_entries files) table
files_held files table rising few holds = record {
  rising = IsStrictlySortedBy-filter name_cmp (λ (f : NamedSlurm). has_entries f.file) files rising;
  some = recursion_from_All _ (with_entries files) (filter_passes (λ (f : NamedSlurm). has_entries f.file) files);
  each = λ name. subst (λ file. HoldsExceptions name file (filter (is_of_file name) table)) (sym (same_exceptions files once name)) (held name);
  named = all-permutation (λ c. is_text (column c 0) ≡ true) _ table holds (all-map _ exception_row (flat_map file_rows files) (all_of _ (λ r. refl) (flat_map file_rows files)));
}
  where
    once : AreNamedOnce files
    once = rising_once files rising

    held : (name : List ℕ) → HoldsExceptions name (exceptions_named files name) (filter (is_of_file name) table)
    held name =
        let file = exceptions_named files name in
        let first = at_positions name (map FilterOf file.filters) in
        let last = at_positions name (map Assertion file.assertions) in
        let low = few_of_name name files few in
        let same : IsPermutation (map exception_row (first ++ last)) (filter (is_of_file name) table) =
        subst (λ l. IsPermutation l (filter (is_of_file name) table)) (rows_of_name name files once) (IsPermutation-filter (is_of_file name) _ _ holds) in
        record {
          filters = first;
          assertions = last;
          filters_placed = placed name (map FilterOf file.filters) (omega (arith, low, length-map file.filters FilterOf));
          assertions_placed = placed name (map Assertion file.assertions) (omega (arith, low, length-map file.assertions Assertion));
          rows = subst (λ l. IsPermutation l (map exception_columns (filter (is_of_file name) table))) (all_shown (first ++ last)) (IsPermutation-map exception_columns _ _ same);
        }
