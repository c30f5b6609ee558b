-- Two files of a set overlap where two of the prefixes that its files name clash.
use Rattle.slurm.proofs.Vocabulary.{◌≡◌, ◌↔◌, ℕ, Bool, true, false, not, ◌||◌, List, [], ◌∷◌, map, refl, sym, ap, ◌∙◌, inl, inr, IsTrue, Decides, list_any, flat_map, Any, IsPermutation, bytes_eq, and_from, and_parts, both_ways, or_cases, or_left, or_right, Decides-or, Any-from_list_any, list_any-append, list_any-from_Any, bytes_eq-Decides, overlaps, Prefix, Exceptions, named_prefixes, overlap, shares, Overlap, some_overlap, AreNamedOnce, SomeOverlap, NamedSlurm, NamedPrefix, clash, of_file, prefixes_of, some_clash}
use Rattle.std.specs.List.{IsDistinct}
use Rattle.slurm.proofs.PassingItems.{all_in, any_in, in_any, same_tests, In}
use Rattle.slurm.proofs.OverlapLemmas.{overlap_decides}
use Rattle.slurm.proofs.WalkLemmas.{some_clash-moved}

-- ---- the test of a list of files

some_later : (f : NamedSlurm) (rest : List NamedSlurm) → Decides (list_any (λ g. overlap f.file g.file) rest) (Any (λ g. Overlap f.file g.file) rest)
some_later f rest = (
  λ some.
      let one = Any-from_list_any (λ g. overlap f.file g.file) rest some in
      (one.0, one.1, one.2, one.3, (overlap_decides f.file one.1.file).0 one.4),
  λ one.
      list_any-from_Any (λ g. overlap f.file g.file) rest (one.0, one.1, one.2, one.3, (overlap_decides f.file one.1.file).1 one.4),
)

pub some_overlap_decides : (files : List NamedSlurm) → IsTrue (some_overlap files) ↔ SomeOverlap files
some_overlap_decides [] = (λ some. absurd cc, λ none. absurd none)
some_overlap_decides (f ∷ rest) = Decides-or _ _ (some_later f rest) (some_overlap_decides rest)

overlap-flips : (f g : Exceptions) → overlap f g ≡ true → overlap g f ≡ true
overlap-flips f g h =
    let both = (overlap_decides f g).0 h in
    (overlap_decides g f).1 (both.1, both.0, both.3, both.2, (both.4.0, both.4.2, both.4.1))

-- two files with different names that overlap, wherever they are
two_overlap : (files : List NamedSlurm) (f g : NamedSlurm) → In f files → In g files → bytes_eq f.name g.name ≡ false → overlap f.file g.file ≡ true → some_overlap files ≡ true
two_overlap [] f g none in_g apart over = absurd none
two_overlap (h ∷ rest) f g (inl is_f) (inl is_g) apart over =
    absurd (both_ways (bytes_eq f.name g.name) apart ((bytes_eq-Decides f.name g.name).1 (ap (λ (z : NamedSlurm). z.name) (sym is_f ∙ is_g))))
two_overlap (h ∷ rest) f g (inl is_f) (inr in_g) apart over =
    or_left _ _ (any_in (λ z. overlap h.file z.file) rest g in_g (ap (λ (z : NamedSlurm). overlap z.file g.file) is_f ∙ over))
two_overlap (h ∷ rest) f g (inr in_f) (inl is_g) apart over =
    or_left _ _ (any_in (λ z. overlap h.file z.file) rest f in_f (ap (λ (z : NamedSlurm). overlap z.file f.file) is_g ∙ overlap-flips f.file g.file over))
two_overlap (h ∷ rest) f g (inr in_f) (inr in_g) apart over =
    or_right (list_any (λ z. overlap h.file z.file) rest) _ (two_overlap rest f g in_f in_g apart over)

overlapping : (files : List NamedSlurm) → AreNamedOnce files → some_overlap files ≡ true → (f g : NamedSlurm) × In f files × In g files × (bytes_eq f.name g.name ≡ false) × (overlap f.file g.file ≡ true)
unfolding IsDistinct
overlapping [] once some = absurd cc
overlapping (f ∷ rest) once some =
    elim (or_cases (list_any (λ g. overlap f.file g.file) rest) (some_overlap rest) some) [
      | inl here ↦
          let one = in_any (λ g. overlap f.file g.file) rest here in
          (f, one.0, inl refl, inr one.1, all_in (λ g. bytes_eq f.name g.name ≡ false) rest one.0 one.1 once.0, one.2)
      | inr later ↦
          let two = overlapping rest once.1 later in
          (two.0, two.1, inr two.2, inr two.3, two.4, two.5)
    ]

-- ---- the prefixes of all files

mapped_any : (test : NamedPrefix → Bool) (name : List ℕ) (ps : List Prefix) → list_any test (map (of_file name) ps) ≡ list_any (λ p. test (of_file name p)) ps
mapped_any test name [] = refl
mapped_any test name (p ∷ ps) = ap (λ b. test (of_file name p) || b) (mapped_any test name ps)

-- the file names a prefix that passes the test
abbrev passes : (NamedPrefix → Bool) → NamedSlurm → Bool
passes test f = list_any (λ p. test (of_file f.name p)) (named_prefixes f.file)

flat_any : (test : NamedPrefix → Bool) (files : List NamedSlurm) → list_any test (flat_map prefixes_of files) ≡ list_any (passes test) files
flat_any test [] = refl
flat_any test (f ∷ rest) =
    list_any-append test (prefixes_of f) (flat_map prefixes_of rest)
    ∙ ap (λ b. b || list_any test (flat_map prefixes_of rest)) (mapped_any test f.name (named_prefixes f.file))
    ∙ ap (λ b. passes test f || b) (flat_any test rest)

not_true : (b : Bool) → not b ≡ true → b ≡ false
not_true true h = cc
not_true false h = refl

clash_overlaps : (files : List NamedSlurm) → some_clash (flat_map prefixes_of files) ≡ true → some_overlap files ≡ true
clash_overlaps files some =
    let flat = flat_map prefixes_of files in
    let f = in_any (passes (λ x. list_any (clash x) flat)) files (sym (flat_any (λ x. list_any (clash x) flat) files) ∙ some) in
    let p = in_any (λ p. list_any (clash (of_file f.0.name p)) flat) (named_prefixes f.0.file) f.2 in
    let g = in_any (passes (clash (of_file f.0.name p.0))) files (sym (flat_any (clash (of_file f.0.name p.0)) files) ∙ p.2) in
    let q = in_any (λ q. clash (of_file f.0.name p.0) (of_file g.0.name q)) (named_prefixes g.0.file) g.2 in
    let parts = and_parts (not (bytes_eq f.0.name g.0.name)) (overlaps p.0 q.0) q.2 in
    let over : overlap f.0.file g.0.file ≡ true = any_in (shares g.0.file) (named_prefixes f.0.file) p.0 p.1 (any_in (overlaps p.0) (named_prefixes g.0.file) q.0 q.1 parts.1) in
    two_overlap files f.0 g.0 f.1 g.1 (not_true _ parts.0) over

overlap_clashes : (files : List NamedSlurm) → AreNamedOnce files → some_overlap files ≡ true → some_clash (flat_map prefixes_of files) ≡ true
overlap_clashes files once some =
    let flat = flat_map prefixes_of files in
    let two = overlapping files once some in
    let p = in_any (shares two.1.file) (named_prefixes two.0.file) two.5 in
    let q = in_any (overlaps p.0) (named_prefixes two.1.file) p.2 in
    let x = of_file two.0.name p.0 in
    let pair : clash x (of_file two.1.name q.0) ≡ true = and_from _ _ (ap not two.4) q.2 in
    let inner : list_any (clash x) flat ≡ true = flat_any (clash x) files ∙ any_in (passes (clash x)) files two.1 two.3 (any_in (λ r. clash x (of_file two.1.name r)) (named_prefixes two.1.file) q.0 q.1 pair) in
    flat_any (λ y. list_any (clash y) flat) files
    ∙ any_in (passes (λ y. list_any (clash y) flat)) files two.0 two.2 (any_in (λ r. list_any (clash (of_file two.0.name r)) flat) (named_prefixes two.0.file) p.0 p.1 inner)

-- what is found along the prefixes of the files, in any order
pub set_overlap : (files : List NamedSlurm) (given sorted : List NamedPrefix) → AreNamedOnce files → given ≡ flat_map prefixes_of files → IsPermutation given sorted → some_clash sorted ≡ some_overlap files
set_overlap files given sorted once all moved =
    sym (some_clash-moved given sorted moved)
    ∙ ap some_clash all
    ∙ same_tests _ _ (clash_overlaps files) (overlap_clashes files once)
