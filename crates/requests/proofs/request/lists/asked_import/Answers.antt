use Rattle.std.proofs.Common.{rules}
use Rattle.requests.proofs.PartsLemmas.{mapped-second}
use Rattle.requests.proofs.request.lists.asked_import.Goals as goal

pub returns-in_err-holder : goal.returns-in_err-holder
returns-in_err-holder c = rw (mapped-second (λ v. v.items) c.args.subject.holder c.args.rows, ← c.both.ensures) (search rules)
