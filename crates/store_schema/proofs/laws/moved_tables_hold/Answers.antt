use Rattle.store_schema.proofs.Moved.{moved_hold}
use Rattle.store_schema.proofs.laws.moved_tables_hold.Goals as goal

pub returns : goal.returns
returns c = moved_hold
