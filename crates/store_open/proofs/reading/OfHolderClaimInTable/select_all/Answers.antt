use Rattle.store_open.proofs.AllTexts.{selects_claim}
use Rattle.store_open.proofs.SomeAuths.{claims_in}
use Rattle.store_open.proofs.reading.OfHolderClaimInTable.select_all.Goals as goal

pub returns : goal.returns
returns c = record { selects = selects_claim; shows = λ db read. claims_in db read.authorizations }
