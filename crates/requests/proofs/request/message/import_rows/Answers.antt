use Rattle.std.proofs.Common.{rules}
use Rattle.requests.proofs.HttpReadLemmas.{import_rows-read}
use Rattle.requests.proofs.request.message.import_rows.Goals as goal

pub returns : goal.returns
returns c =
    let read = c.in_ok-read_import in
    rw (← import_rows-read c.args.text.now read.field-0 read.ensures.rows read.ensures.fault) (search rules)
