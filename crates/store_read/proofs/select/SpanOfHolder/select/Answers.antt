use Rattle.store_read.proofs.Finding.{selects, spans_query}
use Rattle.store_read.proofs.select.SpanOfHolder.select.Goals as goal

pub returns : goal.returns
returns c = selects _ _ _ _ spans_query
