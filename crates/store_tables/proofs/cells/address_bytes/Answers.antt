use Rattle.store_tables.specs.Cells.{address_bytes}
use Rattle.store_tables.proofs.cells.address_bytes.Goals as goal

pub returns : goal.returns
unfolding address_bytes
returns c = c.to_be_bytes.ensures
