use Rattle.std.proofs.Common.{rules}
use Rattle.requests.proofs.Vocabulary.{mapped-unless, fault_order, request_terms}
use Rattle.requests.proofs.request.message.object_request.Goals as goal

pub returns : goal.returns
returns c =
    rw (c.unless.ensures, mapped-unless fault_order request_terms c.in_ok-request.request c.only_body_members_of.result) (search rules)
