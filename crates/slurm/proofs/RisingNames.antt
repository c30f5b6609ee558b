-- Files that rise by name have each name once.
use Rattle.slurm.proofs.Vocabulary.{Bool, List, subst, eq_by_cmp, name_cmp, AreNamedOnce, RiseByName, NamedSlurm}
use Rattle.std.specs.List.{IsDistinct}
use Rattle.std.proofs.lemmas.Map.Keys.{IsDistinct-from_sorted}
use Rattle.std.proofs.lemmas.Map.Text.{is_eq-slice_cmp}

-- names that tie are the same bytes
pub by_bytes : (P : Type 0 → Type 0) (files : List NamedSlurm) → P (IsDistinct (eq_by_cmp name_cmp) files) → P (AreNamedOnce files)
by_bytes P files = subst (λ (same : NamedSlurm → NamedSlurm → Bool). P (IsDistinct same files)) (λ i f g. is_eq-slice_cmp f.name g.name i)

pub rising_once : (files : List NamedSlurm) → RiseByName files → AreNamedOnce files
rising_once files rising = by_bytes (λ P. P) files (IsDistinct-from_sorted name_cmp files rising)
