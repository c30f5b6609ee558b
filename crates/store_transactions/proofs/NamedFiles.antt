-- SLURM files that rise by name, by what the file of each name says.
use Rattle.store_transactions.proofs.Vocabulary.{◌≡◌, ℕ, Bool, true, false, if◌then◌else◌, List, [], ◌∷◌, Ordering, Less, Equal, Greater, is_eq, inl, inr, refl, sym, ap, subst, ◌∙◌, arith, slice_cmp, AllByRecursion, ordering_reverse, bytes_eq, both_ways, nat_list_cmp_total, All-nil, recursion_from_All, is_eq-slice_cmp, all_both, Has, ExceptionsFit, FileFits, FilesFit, FilterFits, VrpFits, same_name-same, same_name-true, Exceptions, exceptions_named, has_entries, RiseByName, NamedSlurm}
use Rattle.std.proofs.Common.{nat_cmp}
use Rattle.std.specs.List.Sorted.{IsStrictlySortedBy}

-- ---- names

apart : (a b : List ℕ) → slice_cmp nat_cmp a b ≡ Less → bytes_eq b a ≡ false
apart a b less = sym (is_eq-slice_cmp b a) ∙ ap is_eq (nat_list_cmp_total.antisymm b a ∙ ap ordering_reverse less)

apart_too : (a b : List ℕ) → slice_cmp nat_cmp a b ≡ Less → bytes_eq a b ≡ false
apart_too a b less = sym (is_eq-slice_cmp a b) ∙ ap is_eq less

one_name : (a b : List ℕ) → slice_cmp nat_cmp a b ≡ Equal → a ≡ b
one_name a b same = same_name-true a b (sym (is_eq-slice_cmp a b) ∙ ap is_eq same)

-- ---- what the file of a name says

abbrev pub nothing : Exceptions
nothing = record { filters = []; assertions = [] }

abbrev IsBeforeAll : List ℕ → List NamedSlurm → Type 0
IsBeforeAll name files = AllByRecursion (λ (f : NamedSlurm). slice_cmp nat_cmp name f.name ≡ Less) files

none_of_it : (name : List ℕ) (files : List NamedSlurm) → IsBeforeAll name files → exceptions_named files name ≡ nothing
none_of_it name [] all = refl
none_of_it name (f ∷ files) all = rw (apart name f.name all.0) (none_of_it name files all.1)

-- each file is what the file of its name says
pub said : (files : List NamedSlurm) → RiseByName files → AllByRecursion (λ (f : NamedSlurm). exceptions_named files f.name ≡ f.file) files
unfolding IsStrictlySortedBy
said [] rising = tt
said (f ∷ rest) rising = (
  rw (same_name-same f.name) refl,
  all_both _ (λ (g : NamedSlurm). slice_cmp nat_cmp f.name g.name ≡ Less) (λ (g : NamedSlurm). exceptions_named (f ∷ rest) g.name ≡ g.file)
      (λ g is less. rw (apart_too f.name g.name less) is) rest (said rest rising.1) rising.0,
)

-- a name of which something is said is that of a file
pub named : (files : List NamedSlurm) (name : List ℕ) → has_entries (exceptions_named files name) ≡ true → (f : NamedSlurm) × Has files f × (f.name ≡ name)
named [] name some = absurd cc
named (f ∷ files) name some = go (bytes_eq f.name name) refl some (named files name)
  where
    go : (b : Bool) → bytes_eq f.name name ≡ b → has_entries (if b then f.file else exceptions_named files name) ≡ true
        → (has_entries (exceptions_named files name) ≡ true → (g : NamedSlurm) × Has files g × (g.name ≡ name)) → (g : NamedSlurm) × Has (f ∷ files) g × (g.name ≡ name)
    go true is some later = (f, inl refl, same_name-true f.name name is)
    go false is some later = let it = later some in (it.0, inr it.1, it.2)

-- what the file of a name says fits, where the files do; nothing fits
pub nothing_fits : ExceptionsFit nothing
nothing_fits = record { number = omega arith; filters = All-nil FilterFits; assertions = All-nil VrpFits }

pub said_fits : (files : List NamedSlurm) (name : List ℕ) → FilesFit files → ExceptionsFit (exceptions_named files name)
said_fits files name fit = go files (recursion_from_All FileFits files fit)
  where
    go : (some : List NamedSlurm) → AllByRecursion FileFits some → ExceptionsFit (exceptions_named some name)
    go [] all = nothing_fits
    go (f ∷ some) all = elim (bytes_eq f.name name) as (λ b. ExceptionsFit (if b then f.file else exceptions_named some name)) [ true ↦ all.0.file | false ↦ go some all.1 ]

-- ---- files of which the same is said

abbrev HaveEntries : List NamedSlurm → Type 0
HaveEntries files = AllByRecursion (λ (f : NamedSlurm). has_entries f.file ≡ true) files

-- the first file of a list, before all files of another
not_there : (f : NamedSlurm) (rest other : List NamedSlurm) → has_entries f.file ≡ true → IsBeforeAll f.name other → exceptions_named (f ∷ rest) f.name ≡ exceptions_named other f.name → ⊥
not_there f rest other some before same =
    let first : exceptions_named (f ∷ rest) f.name ≡ f.file = rw (same_name-same f.name) refl in
    let none : f.file ≡ nothing = sym first ∙ same ∙ none_of_it f.name other before in
    both_ways _ (ap has_entries none) some

before_all : (name : List ℕ) (g : NamedSlurm) (rest : List NamedSlurm) → slice_cmp nat_cmp name g.name ≡ Less → IsBeforeAll g.name rest → IsBeforeAll name (g ∷ rest)
before_all name g rest less all = (less, go rest all)
  where
    go : (some : List NamedSlurm) → IsBeforeAll g.name some → IsBeforeAll name some
    go [] all = tt
    go (h ∷ some) all = (nat_list_cmp_total.trans name g.name h.name less all.0, go some all.1)

-- what the later files say of a name
of_rest : (f : NamedSlurm) (rest : List NamedSlurm) (name : List ℕ) → IsBeforeAll f.name rest → exceptions_named rest name ≡ (if bytes_eq f.name name then nothing else exceptions_named (f ∷ rest) name)
of_rest f rest name before = go (bytes_eq f.name name) refl
  where
    go : (b : Bool) → bytes_eq f.name name ≡ b → exceptions_named rest name ≡ (if b then nothing else (if b then f.file else exceptions_named rest name))
    go true is = subst (λ n. exceptions_named rest n ≡ nothing) (same_name-true f.name name is) (none_of_it f.name rest before)
    go false is = refl

pub files_alike : (a b : List NamedSlurm) → RiseByName a → RiseByName b → HaveEntries a → HaveEntries b → ((name : List ℕ) → exceptions_named a name ≡ exceptions_named b name) → a ≡ b
unfolding IsStrictlySortedBy
files_alike [] [] up other some more same = refl
files_alike [] (g ∷ gs) up other some more same = absurd (not_there g gs [] more.0 tt (sym (same g.name)))
files_alike (f ∷ fs) [] up other some more same = absurd (not_there f fs [] some.0 tt (same f.name))
files_alike (f ∷ fs) (g ∷ gs) up other some more same = go (slice_cmp nat_cmp f.name g.name) refl (files_alike fs gs up.1 other.1 some.1 more.1)
  where
    go : (o : Ordering) → slice_cmp nat_cmp f.name g.name ≡ o → (((name : List ℕ) → exceptions_named fs name ≡ exceptions_named gs name) → fs ≡ gs) → f ∷ fs ≡ g ∷ gs
    go Less is later = absurd (not_there f fs (g ∷ gs) some.0 (before_all f.name g gs is other.0) (same f.name))
    go Greater is later =
        let turned = nat_list_cmp_total.antisymm g.name f.name ∙ ap ordering_reverse is in
        absurd (not_there g gs (f ∷ fs) more.0 (before_all g.name f fs turned up.0) (sym (same g.name)))
    go Equal is later =
        let name = one_name f.name g.name is in
        let file : f.file ≡ g.file = sym (rw (same_name-same f.name) refl) ∙ same f.name ∙ ap (exceptions_named (g ∷ gs)) name ∙ rw (same_name-same g.name) refl in
        let rest = later (λ n. of_rest f fs n up.0 ∙ (λ i. if bytes_eq (name i) n then nothing else same n i) ∙ sym (of_rest g gs n other.0)) in
        λ i. record { name = name i; file = file i } ∷ rest i
