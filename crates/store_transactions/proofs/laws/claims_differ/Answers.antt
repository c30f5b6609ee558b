use Rattle.store_transactions.proofs.KeyedRows.{claims_differ}
use Rattle.store_transactions.proofs.laws.claims_differ.Goals as goal

pub returns : goal.returns
returns c = claims_differ
