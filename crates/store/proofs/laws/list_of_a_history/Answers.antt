use Rattle.store.proofs.HistoryRows.{loads_list}
use Rattle.store.proofs.laws.list_of_a_history.Goals as goal

pub returns : goal.returns
returns c = loads_list
