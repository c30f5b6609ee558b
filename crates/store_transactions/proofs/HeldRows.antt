-- The rows of a table that holds SLURM files: each is of one of them, and of each file there is one.
use Rattle.store_transactions.proofs.Vocabulary.{◌≡◌, ℕ, ◌+◌, ◌<◌, true, List, [], ◌∷◌, ◌++◌, map, filter, length, refl, inl, sym, ap, subst, ◌∙◌, arith, All, IsTrue, AllByRecursion, All-from_recursion, recursion_from_All, Value, Null, Int, Real, Text, Blob, Row, column, all-append, all-map, all-permutation, all_weaker, Has, all_from, all_has, has_filtered, has_kept, is_name, ExceptionsFit, FileFits, FilesFit, FilterFits, VrpFits, Exceptions, exceptions_named, has_entries, NamedSlurm, Exception, ExceptionRow, exception_row, IsPosition, ExceptionFits, ExceptionRowFits, exception_columns, ArePlaced, HoldsExceptions, HoldsFiles, is_of_file, is_text, name_of-true, name_of_itself, AreFewOfEach}
use Rattle.sqlite_rules.proofs.ProbeLemmas.{has_mapped, mapped_has}
use Rattle.store_tables.specs.declared.exception.Exception.TheVariants.{Filter as FilterOf, Assertion}
use Rattle.store_tables.proofs.HeldExceptions.{held_number}
use Rattle.store_transactions.proofs.NamedFiles.{named, said, said_fits}

a_text : (v : Value) → is_text v ≡ true → (t : List ℕ) × (v ≡ Text t)
a_text Null is = absurd cc
a_text (Int n) is = absurd cc
a_text (Real x) is = absurd cc
a_text (Text t) is = (t, refl)
a_text (Blob b) is = absurd cc

-- ---- the names of files

some_number : (file : Exceptions) (n : ℕ) → length file.filters + length file.assertions ≡ n → 0 < n → has_entries file ≡ true
some_number file n is more = grind (arith, is, more)

number_of_some : (file : Exceptions) (n : ℕ) → length file.filters + length file.assertions ≡ n → has_entries file ≡ true → 0 < n
number_of_some file n is some = grind (arith, is, some)

has_number : {X : Type 0} (xs : List X) (x : X) → Has xs x → 0 < length xs
has_number [] x has = absurd has
has_number (y ∷ xs) x has = omega arith

some_item : {X : Type 0} (xs : List X) → 0 < length xs → (x : X) × Has xs x
some_item [] more = absurd (omega (arith, more))
some_item (x ∷ xs) more = (x, inl refl)

abbrev file_names : List NamedSlurm → List (List ℕ)
file_names files = map (λ (f : NamedSlurm). f.name) files

module _ (files : List NamedSlurm) (table : List Row) (holds : HoldsFiles files table) where
  -- the text of a row is the name of a file, and the name of each file is that of some row
  of_row : (c : Row) (t : List ℕ) → Has table c → column c 0 ≡ Text t → Has (file_names files) t
  of_row c t has is =
      let mine = has_kept (is_of_file t) table c has (name_of_itself t (column c 0) is) in
      let some = some_number (exceptions_named files t) _ (held_number t (exceptions_named files t) _ (holds.each t)) (has_number _ c mine) in
      let it = named files t some in
      subst (Has (file_names files)) it.2 (mapped_has (λ (f : NamedSlurm). f.name) files it.0 it.1)

  pub some_row : (t : List ℕ) → Has (file_names files) t → (c : Row) × Has table c × (column c 0 ≡ Text t)
  some_row t has =
      let it = has_mapped (λ (f : NamedSlurm). f.name) files t has in
      let f = it.0 in
      let says = all_has (λ (g : NamedSlurm). exceptions_named files g.name ≡ g.file) files f (said files holds.rising) it.1 in
      let some : has_entries (exceptions_named files f.name) ≡ true = ap has_entries says ∙ all_has (λ (g : NamedSlurm). has_entries g.file ≡ true) files f holds.some it.1 in
      let c = some_item _ (number_of_some (exceptions_named files f.name) _ (held_number f.name (exceptions_named files f.name) _ (holds.each f.name)) some) in
      let in_table = has_filtered (is_of_file f.name) table c.0 c.1 in
      (c.0, in_table.0, name_of-true f.name (column c.0 0) in_table.1 ∙ ap Text (sym it.2))

-- the names of files that fit are names
names_fit : (files : List NamedSlurm) → FilesFit files → All (λ t. IsTrue (is_name t)) (file_names files)
names_fit files fit =
    All-from_recursion (λ t. IsTrue (is_name t)) (file_names files)
    (all-map (λ t. IsTrue (is_name t)) (λ (f : NamedSlurm). f.name) files
    (all_weaker FileFits (λ (f : NamedSlurm). IsTrue (is_name f.name)) (λ f fits. fits.name) files (recursion_from_All FileFits files fit)))

-- ---- each row shows an exception in its range

abbrev ShowsException : Row → Type 0
ShowsException c = (r : ExceptionRow) × ExceptionRowFits r × (c ≡ exception_row r)

-- rows of exceptions that fit, at their positions in a file that has a name, fit
placed_fit : (name : List ℕ) (exceptions : List Exception) (rows : List ExceptionRow) → IsTrue (is_name name) → ArePlaced name exceptions rows → AllByRecursion ExceptionFits exceptions → AllByRecursion ExceptionRowFits rows
placed_fit name exceptions rows is placed fit = go rows placed.named placed.positions (subst (AllByRecursion ExceptionFits) (sym placed.brought) fit)
  where
    go : (rows : List ExceptionRow) → AllByRecursion (λ (r : ExceptionRow). r.file ≡ name) rows → AllByRecursion (λ (r : ExceptionRow). IsPosition r.position) rows
        → AllByRecursion ExceptionFits (map (λ (r : ExceptionRow). r.exception) rows) → AllByRecursion ExceptionRowFits rows
    go [] files positions fit = tt
    go (r ∷ rows) files positions fit = (record { file = subst (λ n. IsTrue (is_name n)) (sym files.0) is; position = positions.0; exception = fit.0 }, go rows files.1 positions.1 fit.1)

exceptions_read : (name : List ℕ) (exceptions : Exceptions) (table : List Row) → IsTrue (is_name name) → HoldsExceptions name exceptions table → ExceptionsFit exceptions → AllByRecursion ShowsException (map exception_columns table)
exceptions_read name exceptions table is holds fit =
    let filters = placed_fit name _ holds.filters is holds.filters_placed (all-map ExceptionFits FilterOf exceptions.filters (recursion_from_All FilterFits exceptions.filters fit.filters)) in
    let assertions = placed_fit name _ holds.assertions is holds.assertions_placed (all-map ExceptionFits Assertion exceptions.assertions (recursion_from_All VrpFits exceptions.assertions fit.assertions)) in
    all-permutation ShowsException _ _ holds.rows
    (all-map ShowsException exception_row (holds.filters ++ holds.assertions)
    (all_from _ (holds.filters ++ holds.assertions) (λ r has. (r, all_has ExceptionRowFits _ r (all-append ExceptionRowFits holds.filters holds.assertions filters assertions) has, refl))))

-- each row of the table shows an exception of the file of its name
pub files_read : (files : List NamedSlurm) (table : List Row) → HoldsFiles files table → FilesFit files → AllByRecursion ShowsException (map exception_columns table)
files_read files table holds fit =
    all-map ShowsException exception_columns table (all_from _ table (λ c has.
    let (name, is) = a_text (column c 0) (all_has (λ d. is_text (column d 0) ≡ true) table c holds.named has) in
    let mine = has_kept (is_of_file name) table c has (name_of_itself name (column c 0) is) in
    let named = all_has (λ n. IsTrue (is_name n)) (file_names files) name (recursion_from_All (λ n. IsTrue (is_name n)) (file_names files) (names_fit files fit)) (of_row files table holds c name has is) in
    all_has ShowsException _ (exception_columns c) (exceptions_read name (exceptions_named files name) _ named (holds.each name) (said_fits files name fit))
    (mapped_has exception_columns (filter (is_of_file name) table) c mine)))

pub files_few : (files : List NamedSlurm) (table : List Row) → HoldsFiles files table → FilesFit files → AreFewOfEach table
files_few files table holds fit name = omega (arith, (said_fits files name fit).number, held_number name (exceptions_named files name) _ (holds.each name))
