use Rattle.store_open.proofs.AllTexts.{selects_granted}
use Rattle.store_open.proofs.Unread.{grants_in}
use Rattle.store_open.proofs.reading.GrantedInTable.select_all.Goals as goal

pub returns : goal.returns
returns c = record { selects = selects_granted; shows = grants_in }
