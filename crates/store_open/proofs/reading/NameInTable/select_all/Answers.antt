use Rattle.store_open.proofs.AllTexts.{selects_operator}
use Rattle.store_open.proofs.Unread.{operators_in}
use Rattle.store_open.proofs.reading.NameInTable.select_all.Goals as goal

pub returns : goal.returns
returns c = record { selects = selects_operator; shows = operators_in }
