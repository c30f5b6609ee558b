use Rattle.desk_files.proofs.DeskFileLemmas.{finds_over}
use Rattle.desk_files.proofs.file.connect_files.Goals as goal

pub returns-in-Ok-clause-over : goal.returns-in-Ok-clause-over
returns-in-Ok-clause-over g c = finds_over c.args.files c.in-Ok.conn c.in-Ok.ensures.opened c.in-Ok.ensures.found

pub returns-in-Err-clause-left : goal.returns-in-Err-clause-left
returns-in-Err-clause-left g c = (
  (λ clean. (c.in-Err.error, c.fault_of_sqlite.ensures.told, c.in-Err.ensures.cause clean)),
  c.in-Err.ensures.unharmed,
)
