use Rattle.std.proofs.Common.{◌∙◌}
use Rattle.http_messages.proofs.ResponseLemmas.{first-broken, both-written, second-broken}
use Rattle.http_messages.proofs.response.write_response.Goals as goal

pub returns-in_err-write_all-clause-err : goal.returns-in_err-write_all-clause-err
returns-in_err-write_all-clause-err g c =
    first-broken c.from_residual.result _ _ _ _ _
    (c.as_bytes-2.ensures.value ∙ c.as_str-2.ensures.value ∙ c.response_head-head.ensures) c.in_err-write_all.ensures.err

pub returns-clause-ok : goal.returns-clause-ok
returns-clause-ok g c =
    both-written c.write_all-3.result _ _ _ _ _ _
    (c.as_bytes-2.ensures.value ∙ c.as_str-2.ensures.value ∙ c.response_head-head.ensures)
    c.in_ok-write_all.ensures.ok c.write_all-3.ensures.ok

pub returns-clause-err : goal.returns-clause-err
returns-clause-err g c =
    second-broken c.write_all-3.result _ _ _ _ _ _
    (c.as_bytes-2.ensures.value ∙ c.as_str-2.ensures.value ∙ c.response_head-head.ensures)
    c.in_ok-write_all.ensures.ok c.write_all-3.ensures.err
