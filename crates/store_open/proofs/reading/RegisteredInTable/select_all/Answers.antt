use Rattle.store_open.proofs.AllTexts.{selects_holder}
use Rattle.store_open.proofs.Unread.{holders_in}
use Rattle.store_open.proofs.reading.RegisteredInTable.select_all.Goals as goal

pub returns : goal.returns
returns c = record { selects = selects_holder; shows = holders_in }
