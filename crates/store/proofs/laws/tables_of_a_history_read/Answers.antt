use Rattle.store.proofs.HeldRead.{opens_again}
use Rattle.store.proofs.laws.tables_of_a_history_read.Goals as goal

pub returns : goal.returns
returns c = opens_again c.legal_rows_fit.ensures c.files_in_force_fit.ensures
