use Rattle.desk_files.proofs.Vocabulary.{false, subst, sym, IsBlankAs, IsOpenOver}
use Rattle.desk_files.proofs.file.connect.Goals as goal

pub returns-in-Ok-connect_files-clause-over : goal.returns-in-Ok-connect_files-clause-over
returns-in-Ok-connect_files-clause-over g c =
    subst (IsOpenOver c.in-Ok-connect_files.conn) c.in-Ok.ensures.image c.in-Ok-connect_files.ensures.over

pub returns-in-Ok-connect_files-clause-plain : goal.returns-in-Ok-connect_files-clause-plain
returns-in-Ok-connect_files-clause-plain g c clean blank =
    c.in-Ok-connect_files.ensures.plain clean (subst (IsBlankAs false) (sym c.in-Ok.ensures.image) blank)

pub returns-in-Err-connect_files-clause-left : goal.returns-in-Err-connect_files-clause-left
returns-in-Err-connect_files-clause-left g c =
    (c.in-Ok.found.0, c.in-Ok.ensures.image, c.in-Err-connect_files.ensures.left)
