use Rattle.store_open.proofs.AllTexts.{selects_pool}
use Rattle.store_open.proofs.Unread.{pool_in}
use Rattle.store_open.proofs.reading.PrefixInTable.select_all.Goals as goal

pub returns : goal.returns
returns c = record { selects = selects_pool; shows = pool_in }
