use Rattle.store_read.proofs.Finding.{selects, claims_query}
use Rattle.store_read.proofs.select.ClaimOfHolder.select.Goals as goal

pub returns : goal.returns
returns c = selects _ _ _ _ claims_query
