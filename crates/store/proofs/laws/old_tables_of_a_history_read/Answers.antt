use Rattle.store.proofs.HeldRead.{old_opens_again}
use Rattle.store.proofs.laws.old_tables_of_a_history_read.Goals as goal

pub returns : goal.returns
returns c = old_opens_again c.legal_rows_fit.ensures c.files_in_force_fit.ensures
