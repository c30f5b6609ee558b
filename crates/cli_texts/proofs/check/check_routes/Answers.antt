use Rattle.cli_texts.proofs.CheckLemmas.{faultless-check}
use Rattle.cli_texts.proofs.Vocabulary.{lines_text}
use Rattle.cli_texts.proofs.check.check_routes.Goals as goal

pub returns-clause-ok : goal.returns-clause-ok
returns-clause-ok g c = λ payloads known.
    let (routes, file, text) = c.in-Ok.ensures.ok in (
      lines_text c.in-Ok.lines,
      (known.listed, routes, record { payload_file = known.file; route_file = file }, rw known.same at text),
      c.in-Ok-write_to.ensures.ok,
    )

pub returns-clause-faultless : goal.returns-clause-faultless
returns-clause-faultless g c = λ payloads known. faultless-check payloads c.args.routes.now known.faultless c.in-Ok.ensures.faultless

pub returns-in_default-clause-err : goal.returns-in_default-clause-err
returns-in_default-clause-err g c = λ payloads known.
    let (routes, file, text) = c.in-Ok.ensures.ok in (
      lines_text c.in-Ok.lines,
      (known.listed, routes, record { payload_file = known.file; route_file = file }, rw known.same at text),
      c.in_default.ensures.err,
      c.in_default.ensures.failed,
    )
