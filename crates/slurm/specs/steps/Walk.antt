-- A walk along all prefixes that the files of a set name, which meets the prefixes that lie in
-- another one right after it.
use Rattle.std.specs.Prelude.{Bool, true, false, not, ◌&&◌, if◌then◌else◌, ℕ, List, [], ◌∷◌, map}
use Rattle.std.specs.List.{list_any}
use Rattle.std.specs.Str.{bytes_eq}
use Rattle.addr.specs.Address.{contains, overlaps}
use Rattle.addr.specs.declared.prefix.Prefix.{Prefix}
use Rattle.slurm.specs.Overlap.{named_prefixes}
use Rattle.slurm.specs.declared.set.NamedSlurm.{NamedSlurm}
use Rattle.slurm.specs.declared.walk.NamedPrefix.{NamedPrefix}

-- the prefix as one that the file of that name names
abbrev pub of_file : List ℕ → Prefix → NamedPrefix
of_file file p = record { prefix = p; file = file }

-- all that the file names
abbrev pub prefixes_of : NamedSlurm → List NamedPrefix
prefixes_of named = map (of_file named.name) (named_prefixes named.file)

-- the two are of different files and share an address
abbrev pub clash : NamedPrefix → NamedPrefix → Bool
clash p q = not (bytes_eq p.file q.file) && overlaps p.prefix q.prefix

-- some two do
abbrev pub some_clash : List NamedPrefix → Bool
some_clash prefixes = list_any (λ p. list_any (clash p) prefixes) prefixes

-- whether one of the prefixes lies in the outer one and is of another file; one that does not lie in
-- it is the next outer one
abbrev pub walk : NamedPrefix → List NamedPrefix → Bool
walk outer [] = false
walk outer (next ∷ rest) =
    if contains outer.prefix next.prefix
    then (if bytes_eq outer.file next.file then walk outer rest else true) else walk next rest
