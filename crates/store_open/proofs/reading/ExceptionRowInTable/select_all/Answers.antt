use Rattle.store_open.proofs.AllTexts.{selects_slurm}
use Rattle.store_open.proofs.Unread.{exceptions_in}
use Rattle.store_open.proofs.reading.ExceptionRowInTable.select_all.Goals as goal

pub returns : goal.returns
returns c = record { selects = selects_slurm; shows = exceptions_in }
