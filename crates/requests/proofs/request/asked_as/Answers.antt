use Rattle.std.proofs.Common.{rules}
use Rattle.requests.proofs.Vocabulary.{mapped-unless, fault_order, asked_terms}
use Rattle.requests.proofs.request.asked_as.Goals as goal

pub returns : goal.returns
returns c =
    rw (c.unless.ensures, mapped-unless fault_order asked_terms c.asked_with-asked.result c.only_members_of.result) (search rules)
