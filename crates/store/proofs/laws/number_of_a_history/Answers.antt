use Rattle.store.proofs.HistoryRows.{loads_number}
use Rattle.store.proofs.laws.number_of_a_history.Goals as goal

pub returns : goal.returns
returns c = loads_number
