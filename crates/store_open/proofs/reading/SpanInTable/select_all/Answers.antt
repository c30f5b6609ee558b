use Rattle.store_open.proofs.AllTexts.{selects_holding}
use Rattle.store_open.proofs.Unread.{holdings_in}
use Rattle.store_open.proofs.reading.SpanInTable.select_all.Goals as goal

pub returns : goal.returns
returns c = record { selects = selects_holding; shows = holdings_in }
