-- Named files in order: they rise by their names where none is there twice, and have that order alone.
use Rattle.requests.proofs.Vocabulary.{◌≡◌, ◌≤◌, arith, Bool, true, false, List, [], ◌∷◌, length, Ok, Err, refl, sym, ap, ◌∙◌, IsPermutation, Equal, IsTotalOrder, on_total, AllByRecursion, list_any, is_eq, bytes_eq, and_from, le-leb, or_parts, AreNamedOnce, RiseByName, name_cmp, NamedSlurm, MOST_FILES, is_count, FileName, files_arranged, repeats_name}
use Rattle.std.specs.List.{IsDistinct}
use Rattle.std.proofs.lemmas.Cmp.{nat_list_cmp_total}
use Rattle.std.proofs.lemmas.Map.Text.{is_eq-slice_cmp}
use Rattle.requests.proofs.InOrder.{is_in_order}

pub name_total : IsTotalOrder name_cmp
name_total = on_total (λ f. f.name) nat_list_cmp_total

abbrev have_one_name : NamedSlurm → NamedSlurm → Bool
have_one_name f g = bytes_eq f.name g.name

pub tied-named : (f g : NamedSlurm) → name_cmp f g ≡ Equal → have_one_name f g ≡ true
tied-named f g tied = sym (is_eq-slice_cmp f.name g.name) ∙ ap is_eq tied

-- ---- names that are there twice, by the test and by the relation

none-named : (f : NamedSlurm) (files : List NamedSlurm) → AllByRecursion (λ g. have_one_name f g ≡ false) files → list_any (λ g. have_one_name f g) files ≡ false
none-named f [] all = refl
none-named f (g ∷ files) all = rw (all.0, none-named f files all.1) refl

all-others : (f : NamedSlurm) (files : List NamedSlurm) → list_any (λ g. have_one_name f g) files ≡ false → AllByRecursion (λ g. have_one_name f g ≡ false) files
all-others f [] none = tt
all-others f (g ∷ files) none =
    let parts = or_parts (have_one_name f g) (list_any (λ h. have_one_name f h) files) none in
    (parts.0, all-others f files parts.1)

once_by_test : (files : List NamedSlurm) → AreNamedOnce files → repeats_name files ≡ false
unfolding IsDistinct
once_by_test [] once = refl
once_by_test (f ∷ files) once = rw (none-named f files once.0, once_by_test files once.1) refl

once_from_test : (files : List NamedSlurm) → repeats_name files ≡ false → AreNamedOnce files
unfolding IsDistinct
once_from_test [] single = tt
once_from_test (f ∷ files) single =
    let parts = or_parts (list_any (λ g. have_one_name f g) files) (repeats_name files) single in
    (all-others f files parts.0, once_from_test files parts.1)

repeated_by_test : (files : List NamedSlurm) → ¬ AreNamedOnce files → repeats_name files ≡ true
repeated_by_test files repeated = by_test (repeats_name files) refl
  where
    by_test : (b : Bool) → repeats_name files ≡ b → b ≡ true
    by_test true is = refl
    by_test false is = absurd (repeated (once_from_test files is))

-- ---- files in order

counted : (files : List NamedSlurm) → length files ≤ MOST_FILES → is_count 0 MOST_FILES (length files) ≡ true
counted files number = and_from _ _ (le-leb 0 (length files) (omega arith)) (le-leb _ _ number)

pub made_arranged : (files made : List NamedSlurm) → length files ≤ MOST_FILES → AreNamedOnce files → IsPermutation files made → RiseByName made → Ok made ≡ files_arranged files
made_arranged files made number once moved rising =
    let single : repeats_name files ≡ false = once_by_test files once in
    rw (counted files number, single) (ap Ok (is_in_order name_cmp name_total have_one_name tied-named files made single moved rising))

pub repeated_arranged : (files : List NamedSlurm) → length files ≤ MOST_FILES → ¬ AreNamedOnce files → Err FileName ≡ files_arranged files
repeated_arranged files number repeated = rw (counted files number, repeated_by_test files repeated) refl
