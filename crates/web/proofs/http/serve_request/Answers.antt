use Rattle.web.proofs.Vocabulary.{appended_bytes-append}
use Rattle.web.proofs.HttpLemmas.{extent-read, keeps_rows, longer_error, responds}
use Rattle.web.proofs.http.serve_request.Goals as goal

pub returns-in_default-respond-clause-write : goal.returns-in_default-respond-clause-write
returns-in_default-respond-clause-write g c = λ is.
    let (bytes, given, reads) = c.in-Some.ensures.some in
    let (text, answers, begun) = c.in_default-respond.ensures.err in
    (bytes, text, given, responds g.A.Store c.args.desk.now c.respond.new.desk c.args.day bytes text _ reads answers, begun)

pub returns-clause-ok : goal.returns-clause-ok
returns-clause-ok g c =
    let (bytes, given, reads) = c.in-Some.ensures.some in
    let (text, answers, written) = c.in-Ok.ensures.ok in (
      bytes,
      text,
      given,
      responds g.A.Store c.args.desk.now c.respond.new.desk c.args.day bytes text _ reads answers,
      rw c.extent.ensures (extent-read g.A.Store c.args.desk.now c.respond.new.desk c.args.day bytes text _ reads answers),
      written,
    )

pub returns-in_default-respond-clause-kept : goal.returns-in_default-respond-clause-kept
returns-in_default-respond-clause-kept g c = λ error.
    let (bytes, given, reads) = c.in-Some.ensures.some in
    let (text, answers, (out, more, begun, is)) = c.in_default-respond.ensures.err in
    let old = c.args.desk.now in
    let new = c.respond.new.desk in
    keeps_rows g.A.Store old new c.args.day bytes text
    (responds g.A.Store old new c.args.day bytes text _ reads answers)
    (rw is (longer_error out more (rw (appended_bytes-append _ out _ begun) at error)))

pub returns-clause-kept : goal.returns-clause-kept
returns-clause-kept g c = λ error.
    let (bytes, given, reads) = c.in-Some.ensures.some in
    let (text, answers, written) = c.in-Ok.ensures.ok in
    let old = c.args.desk.now in
    let new = c.respond.new.desk in
    keeps_rows g.A.Store old new c.args.day bytes text
    (responds g.A.Store old new c.args.day bytes text _ reads answers)
    (rw (appended_bytes-append _ text _ written) at error)
