use Rattle.web.proofs.Vocabulary.{Err, ap, head_view}
use Rattle.std.specs.Option.{option_copied}
use Rattle.web.proofs.HttpLemmas.{unread-needs}
use Rattle.web.proofs.http.reading.next_of.Goals as goal

pub returns-in-Ok : goal.returns-in-Ok
returns-in-Ok c = λ bytes message.
    (head_view c.args.request.now, option_copied c.args.body, message, c.in-Ok.ensures.ok, c.list_form.ensures)

pub returns-in-Err-Memory : goal.returns-in-Err-Memory
returns-in-Err-Memory c = λ bytes message.
    unread-needs bytes (head_view c.args.request.now) c.args.body message
    (c.in-Err-Memory.ensures.memory (ap Err c.in-Err-Memory.field-0-is))
