use Rattle.web.proofs.Vocabulary.{◌++◌, ap, ◌∙◌, append_assoc, codes, on-err, passes-more}
use Rattle.web.proofs.ReplyLemmas.{AppendsBeginning-after, AppendsBeginning-longer}
use Rattle.web.proofs.reply.write_content.Goals as goal

pub returns-in_err-write_all-clause-err : goal.returns-in_err-write_all-clause-err
returns-in_err-write_all-clause-err g c =
    on-err c.from_residual.result _
    (AppendsBeginning-longer (g.D.Drain.written c.args.drain.now) (g.D.Drain.written c.write_all.new.drain)
    (codes "{\"content\":\"") (c.args.hex.now ++ codes "\"}\n") c.in_err-write_all.ensures.err)

pub returns-in_err-write_all-2-clause-err : goal.returns-in_err-write_all-2-clause-err
returns-in_err-write_all-2-clause-err g c =
    let old = g.D.Drain.written c.args.drain.now in
    let middle = g.D.Drain.written c.write_all.new.drain in
    let new = g.D.Drain.written c.write_all-2.new.drain in
    on-err c.from_residual-in_err-write_all-2.result _
    (rw (← c.as_bytes.ensures.value)
    (AppendsBeginning-after old middle new (codes "{\"content\":\"") (c.as_bytes.result.now ++ codes "\"}\n") c.in_ok-write_all.ensures.ok
    (AppendsBeginning-longer middle new c.as_bytes.result.now (codes "\"}\n") c.in_err-write_all-2.ensures.err)))

pub returns-in_err-write_all-3-clause-err : goal.returns-in_err-write_all-3-clause-err
returns-in_err-write_all-3-clause-err g c =
    let old = g.D.Drain.written c.args.drain.now in
    let first = g.D.Drain.written c.write_all.new.drain in
    let second = g.D.Drain.written c.write_all-2.new.drain in
    let new = g.D.Drain.written c.write_all-3.new.drain in
    let opening = codes "{\"content\":\"" in
    let hex = c.as_bytes.result.now in
    on-err c.from_residual-in_err-write_all-3.result _
    (rw (← c.as_bytes.ensures.value)
    (AppendsBeginning-after old second new (opening ++ hex) (codes "\"}\n")
    (passes-more old opening first hex second c.in_ok-write_all.ensures.ok c.in_ok-write_all-2.ensures.ok)
    c.in_err-write_all-3.ensures.err))

pub returns-clause-ok : goal.returns-clause-ok
returns-clause-ok g c =
    let old = g.D.Drain.written c.args.drain.now in
    let opening = codes "{\"content\":\"" in
    let hex = c.as_bytes.result.now in
    let closing = codes "\"}\n" in
    rw (← c.as_bytes.ensures.value)
    (c.in_ok-write_all-3.ensures.ok
    ∙ ap (λ u. u ++ closing) (c.in_ok-write_all-2.ensures.ok ∙ ap (λ u. u ++ hex) c.in_ok-write_all.ensures.ok)
    ∙ append_assoc (old ++ opening) hex closing
    ∙ append_assoc old opening (hex ++ closing))
