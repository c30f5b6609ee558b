use Rattle.desk_laws.proofs.OneReply.{one_reply}
use Rattle.desk_laws.proofs.one_reply.Goals as goal

pub returns : goal.returns
returns c = one_reply c.one_outcome.ensures c.one_hypothetical_outcome.ensures c.one_spelling.ensures
