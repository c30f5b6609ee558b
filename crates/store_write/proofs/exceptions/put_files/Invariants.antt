use Rattle.store_write.proofs.Vocabulary.{All, map, flat_map, take, exception_row, slurm, file_rows, PutsRows, IsBounded}
use Rattle.store_write.proofs.InTurn.{SoFar}
use Rattle.store_write.proofs.exceptions.put_files.Given as goal

abbrev pub invariant-loop-named : goal.invariant-loop-named
invariant-loop-named g l =
    All IsBounded (take l.named-index l.files)
    × SoFar g.S.Store (PutsRows slurm.tree (map exception_row (flat_map file_rows (take l.named-index l.files)))) l.fn.tx l.tx
