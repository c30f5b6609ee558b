use Rattle.web.proofs.Vocabulary.{rules, ap, true, ◌≡◌, ◌++◌, codes, OnErr, OnOk, Payloads, AppendsBeginning, line_text, items_text}
use Rattle.payload.specs.VrpSet as set
use Rattle.web.proofs.PieceLemmas.{closed-err, closed-ok}
use Rattle.web.proofs.VrpLemmas.{items-broken}
use Rattle.web.proofs.vrps.write_line.Goals as goal

pub returns-in-Ok-clause-ok : goal.returns-in-Ok-clause-ok
returns-in-Ok-clause-ok g c =
    let vrps = set.items (g.I.PayloadIndex.vrps c.args.index.now) in
    let old = g.D.Drain.written c.args.drain.now in
    let out : OnOk c.finish.result (g.D.Drain.written c.finish.new.self.drain.now ≡ old ++ line_text (Payloads vrps)) =
    closed-ok g.D.Drain.written g.D.Drain.has_failed c.begin.result c.visit.new.sink.pieces c.add.new.self c.finish.new.self
    old (codes "{\"payloads\":[") (items_text true vrps) (codes "]}\n") c.finish.result
    (ap (λ d. g.D.Drain.written d.now) c.begin.ensures.drain) c.begin.ensures.piece
    (c.in-Ok.ensures.all c.begin.ensures.unfailed).0 c.add.ensures c.finish.ensures.sent c.finish.ensures.ok in
    search rules

pub returns-in-Ok-clause-err : goal.returns-in-Ok-clause-err
returns-in-Ok-clause-err g c =
    let vrps = set.items (g.I.PayloadIndex.vrps c.args.index.now) in
    let old = g.D.Drain.written c.args.drain.now in
    let begins : OnErr c.finish.result (AppendsBeginning old (g.D.Drain.written c.finish.new.self.drain.now) (line_text (Payloads vrps))) =
    closed-err g.D.Drain.written g.D.Drain.has_failed c.begin.result c.visit.new.sink.pieces c.add.new.self c.finish.new.self
    old (codes "{\"payloads\":[") (items_text true vrps) (codes "]}\n") c.finish.result
    (ap (λ d. g.D.Drain.written d.now) c.begin.ensures.drain) c.begin.ensures.piece
    (c.in-Ok.ensures.all c.begin.ensures.unfailed).0 c.add.ensures c.finish.ensures.sent in
    search rules

pub returns-in-Err-clause-err : goal.returns-in-Err-clause-err
returns-in-Err-clause-err g c =
    let vrps = set.items (g.I.PayloadIndex.vrps c.args.index.now) in
    let old = g.D.Drain.written c.args.drain.now in
    let took = c.in-Err.ensures.beginning c.begin.ensures.unfailed in
    let broken : AppendsBeginning old (g.D.Drain.written c.visit.new.sink.pieces.drain.now) (line_text (Payloads vrps)) =
    items-broken g.D.Drain.written g.D.Drain.has_failed c.begin.result c.visit.new.sink.pieces old vrps took.0
    (ap (λ d. g.D.Drain.written d.now) c.begin.ensures.drain) c.begin.ensures.piece took.3.0 in
    search rules
