use Rattle.requests.proofs.Vocabulary.{◌≡◌, Some, ap, ◌∙◌, Malformed}
use Rattle.requests.proofs.RequestReadLemmas.{line-read, line-refused}
use Rattle.requests.proofs.request.read_line_request.Goals as goal

pub returns-in-Ok-Ok-clause-ok : goal.returns-in-Ok-Ok-clause-ok
returns-in-Ok-Ok-clause-ok c =
    line-read c.args.line.now c.in-Ok-Ok.asked (rw c.in-Ok-Ok.field-0-is at c.in-Ok-Ok.ensures.read)

pub returns-in-Ok-Err-clause-malformed : goal.returns-in-Ok-Err-clause-malformed
returns-in-Ok-Err-clause-malformed c = λ m reported.
    let same : c.malformed.result ≡ m = cc in
    line-refused c.args.line.now c.in-Ok-Err.fault (rw c.in-Ok-Err.field-0-is at c.in-Ok-Err.ensures.read)
    ∙ ap (λ (x : Malformed). Some x) (rw (← c.malformed.ensures) same)
