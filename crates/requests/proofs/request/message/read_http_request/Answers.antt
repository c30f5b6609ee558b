use Rattle.requests.proofs.Vocabulary.{◌≡◌, Some, ap, ◌∙◌, option_copied, head_view, Malformed}
use Rattle.requests.proofs.HttpReadLemmas.{http-read, http-refused}
use Rattle.requests.proofs.request.message.read_http_request.Goals as goal

pub returns-in-Ok-Ok-clause-ok : goal.returns-in-Ok-Ok-clause-ok
returns-in-Ok-Ok-clause-ok c =
    http-read (head_view c.args.head.now) (option_copied c.args.body) c.args.day c.in-Ok-Ok.asked
    (rw c.in-Ok-Ok.field-0-is at c.in-Ok-Ok.ensures.read)

pub returns-in-Ok-Err-clause-malformed : goal.returns-in-Ok-Err-clause-malformed
returns-in-Ok-Err-clause-malformed c = λ m reported.
    let same : c.malformed.result ≡ m = cc in
    http-refused (head_view c.args.head.now) (option_copied c.args.body) c.args.day c.in-Ok-Err.fault
    (rw c.in-Ok-Err.field-0-is at c.in-Ok-Err.ensures.read)
    ∙ ap (λ (x : Malformed). Some x) (rw (← c.malformed.ensures) same)
