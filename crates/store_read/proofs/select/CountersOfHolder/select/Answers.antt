use Rattle.store_read.proofs.Finding.{selects, counters_query}
use Rattle.store_read.proofs.select.CountersOfHolder.select.Goals as goal

pub returns : goal.returns
returns c = selects _ _ _ _ counters_query
