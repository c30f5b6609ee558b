use Rattle.desk_laws.proofs.AsDone.{what_if_as_done}
use Rattle.desk_laws.proofs.what_if_as_done.Goals as goal

pub returns : goal.returns
returns c = what_if_as_done c.one_hypothetical_outcome.ensures
