use Rattle.store_transactions.proofs.KeyedRows.{entries_differ}
use Rattle.store_transactions.proofs.laws.entries_differ.Goals as goal

pub returns : goal.returns
returns c = entries_differ
