-- Sets of named SLURM files (RFC 8416 section 4.2): each file has a name of its own.
use Rattle.std.specs.Prelude.{◌≤◌, ◌⊎◌, ℕ, Bool, false, if◌then◌else◌, ◌||◌, nat_lt, List, [], ◌∷◌, length, filter, flat_map, Any}
use Rattle.std.specs.Cmp.Lexicographic.{slice_cmp}
use Rattle.std.specs.List.{list_any, IsDistinct}
use Rattle.std.specs.List.Sorted.{IsStrictlySortedBy}
use Rattle.std.specs.Ordering.{nat_cmp}
use Rattle.std.specs.Str.{bytes_eq}
use Rattle.std.specs.declared.cmp.Ordering.{Ordering}
use Rattle.slurm.specs.Exceptions.{Exceptions}
use Rattle.slurm.specs.Overlap.{overlap, Overlap}
use Rattle.slurm.specs.declared.set.NamedSlurm.{NamedSlurm}
use Rattle.slurm.specs.declared.set.TheConstants.{MOST_FILES}

-- no two files have one name
abbrev pub AreNamedOnce : List NamedSlurm → Type 0
AreNamedOnce files = IsDistinct (λ f g. bytes_eq f.name g.name) files

-- the order of names, by their bytes
abbrev pub name_cmp : NamedSlurm → NamedSlurm → Ordering
name_cmp f g = slice_cmp nat_cmp f.name g.name

-- the name of each file is before those of all later ones
abbrev pub RiseByName : List NamedSlurm → Type 0
RiseByName files = IsStrictlySortedBy name_cmp files

-- the files of a set
pub record AreFiles (files : List NamedSlurm) : Type 0 where
  pub number : length files ≤ MOST_FILES
  pub rising : RiseByName files

-- some two files overlap: the first and a later one, or two of the later ones
abbrev pub SomeOverlap : List NamedSlurm → Type 0
SomeOverlap [] = ⊥
SomeOverlap (f ∷ rest) = Any (λ g. Overlap f.file g.file) rest ⊎ SomeOverlap rest

-- the same as a test
abbrev pub some_overlap : List NamedSlurm → Bool
some_overlap [] = false
some_overlap (f ∷ rest) = list_any (λ g. overlap f.file g.file) rest || some_overlap rest

-- some filter or some assertion
abbrev pub has_entries : Exceptions → Bool
has_entries file = nat_lt 0 (length file.filters) || nat_lt 0 (length file.assertions)

-- those of the files that have entries: a file without entries is no file
abbrev pub with_entries : List NamedSlurm → List NamedSlurm
with_entries files = filter (λ f. has_entries f.file) files

-- the exceptions of all files as those of one (RFC 8416 section 4.2): all filters and all assertions,
-- file by file
abbrev pub union : List NamedSlurm → Exceptions
union files = record {
  filters = flat_map (λ f. f.file.filters) files;
  assertions = flat_map (λ f. f.file.assertions) files;
}

-- what the file of this name says; nothing where there is none
abbrev pub exceptions_named : List NamedSlurm → List ℕ → Exceptions
exceptions_named [] name = record { filters = []; assertions = [] }
exceptions_named (f ∷ rest) name = if bytes_eq f.name name then f.file else exceptions_named rest name
