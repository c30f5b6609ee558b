use Rattle.store_open.proofs.AllTexts.{selects_entry}
use Rattle.store_open.proofs.SomeAuths.{entries_in}
use Rattle.store_open.proofs.reading.OfHolderEntryRowInTable.select_all.Goals as goal

pub returns : goal.returns
returns c = record { selects = selects_entry; shows = λ db read. entries_in db read.authorizations }
