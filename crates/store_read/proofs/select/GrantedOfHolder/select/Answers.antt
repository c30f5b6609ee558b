use Rattle.store_read.proofs.Finding.{selects, grants_query}
use Rattle.store_read.proofs.select.GrantedOfHolder.select.Goals as goal

pub returns : goal.returns
returns c = selects _ _ _ _ grants_query
