use Rattle.web.proofs.Vocabulary.{rules, ap, ◌≡◌, ◌++◌, ◌∙◌, csv_line, csv_text, payload_header, payload_row, payload_rows, AppendsBeginning, OnErr, OnOk}
use Rattle.payload.specs.VrpSet as set
use Rattle.web.proofs.PieceLemmas.{finished-err, finished-ok}
use Rattle.web.proofs.VrpLemmas.{csv-after, lines-broken}
use Rattle.web.proofs.vrps.write_csv.Goals as goal

pub returns-in-Ok-clause-ok : goal.returns-in-Ok-clause-ok
returns-in-Ok-clause-ok g c =
    let vrps = set.items (g.I.PayloadIndex.vrps c.args.index.now) in
    let old = g.D.Drain.written c.args.drain.now in
    let start = c.args.beginning.now in
    let out : OnOk c.finish.result (g.D.Drain.written c.finish.new.self.drain.now ≡ old ++ (start ++ csv_text payload_header payload_row vrps)) =
    rw (csv-after start vrps)
    (finished-ok g.D.Drain.written g.D.Drain.has_failed c.begin.result c.visit.new.sink.pieces c.finish.new.self
    old (start ++ csv_line payload_header) (payload_rows vrps) c.finish.result
    (ap (λ d. g.D.Drain.written d.now) c.begin.ensures.drain)
    (c.begin.ensures.piece ∙ c.as_str.ensures.value ∙ c.csv_opening-opening.ensures)
    (c.in-Ok.ensures.all c.begin.ensures.unfailed) c.finish.ensures.sent c.finish.ensures.ok) in
    search rules

pub returns-in-Ok-clause-err : goal.returns-in-Ok-clause-err
returns-in-Ok-clause-err g c =
    let vrps = set.items (g.I.PayloadIndex.vrps c.args.index.now) in
    let old = g.D.Drain.written c.args.drain.now in
    let start = c.args.beginning.now in
    let begins : OnErr c.finish.result (AppendsBeginning old (g.D.Drain.written c.finish.new.self.drain.now)
    (start ++ csv_text payload_header payload_row vrps)) =
    rw (csv-after start vrps)
    (finished-err g.D.Drain.written g.D.Drain.has_failed c.begin.result c.visit.new.sink.pieces c.finish.new.self
    old (start ++ csv_line payload_header) (payload_rows vrps) c.finish.result
    (ap (λ d. g.D.Drain.written d.now) c.begin.ensures.drain)
    (c.begin.ensures.piece ∙ c.as_str.ensures.value ∙ c.csv_opening-opening.ensures)
    (c.in-Ok.ensures.all c.begin.ensures.unfailed) c.finish.ensures.sent) in
    search rules

pub returns-in-Err-clause-err : goal.returns-in-Err-clause-err
returns-in-Err-clause-err g c =
    let vrps = set.items (g.I.PayloadIndex.vrps c.args.index.now) in
    let old = g.D.Drain.written c.args.drain.now in
    let start = c.args.beginning.now in
    let took = c.in-Err.ensures.beginning c.begin.ensures.unfailed in
    let broken : AppendsBeginning old (g.D.Drain.written c.visit.new.sink.pieces.drain.now) (start ++ csv_text payload_header payload_row vrps) =
    lines-broken g.D.Drain.written g.D.Drain.has_failed c.begin.result c.visit.new.sink.pieces old start vrps took.0
    (ap (λ d. g.D.Drain.written d.now) c.begin.ensures.drain)
    (c.begin.ensures.piece ∙ c.as_str.ensures.value ∙ c.csv_opening-opening.ensures) took.3 in
    search rules
