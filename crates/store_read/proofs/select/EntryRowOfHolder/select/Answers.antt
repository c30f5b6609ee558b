use Rattle.store_read.proofs.Finding.{selects, entries_query}
use Rattle.store_read.proofs.select.EntryRowOfHolder.select.Goals as goal

pub returns : goal.returns
returns c = selects _ _ _ _ entries_query
