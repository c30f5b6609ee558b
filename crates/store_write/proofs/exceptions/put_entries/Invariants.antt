use Rattle.store_write.proofs.Vocabulary.{◌≡◌, take, slurm, PutsRows, entry_rows}
use Rattle.store_write.proofs.InTurn.{SoFar}
use Rattle.store_write.proofs.exceptions.put_entries.Given as goal

abbrev pub invariant-loop-entry : goal.invariant-loop-entry
invariant-loop-entry g l =
    (l.position ≡ l.entry-index)
    × SoFar g.S.Store (PutsRows slurm.tree (entry_rows l.file g.T.ExceptionEntry.as_exception (take l.entry-index l.entries))) l.fn.tx l.tx
