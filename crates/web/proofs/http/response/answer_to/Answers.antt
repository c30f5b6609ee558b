use Rattle.web.proofs.Vocabulary.{◌≡◌, ◌++◌, None, AppendsBeginning, short_text}
use Rattle.web.proofs.DeskReplies.{replies_at, unless_so}
use Rattle.web.proofs.HttpLemmas.{asked-err, asked-ok, others-unsent}
use Rattle.web.proofs.http.response.answer_to.Goals as goal

pub returns-clause-ok : goal.returns-clause-ok
returns-clause-ok g c =
    let other = unless_so c.if-asks_for_vrps.ensures in
    asked-ok g.A.Store c.args.desk.now c.handle-reply.new.self c.args.form c.args.asked.now c.handle-reply.result
    (short_text c.handle-reply.result ≡ None) (others-unsent c.args.asked.now.request c.handle-reply.result other)
    (replies_at g.A.Store c.args.desk.now c.handle-reply.new.self c.args.asked.now c.handle-reply.result c.asked_fits.ensures
    (record { charter = c.handle-reply.ensures.charter; limit = c.handle-reply.ensures.limit; clean = c.handle-reply.ensures.clean })
    c.handle-reply.ensures.left c.handle-reply.ensures.kept c.handle-reply.ensures.kept_day (λ is. absurd (other is)))
    c.write_reply_response.result
    (λ text. g.D.Drain.written c.write_reply_response.new.drain ≡ g.D.Drain.written c.args.drain.now ++ text)
    c.write_reply_response.ensures.ok

pub returns-clause-err : goal.returns-clause-err
returns-clause-err g c =
    let other = unless_so c.if-asks_for_vrps.ensures in
    asked-err g.A.Store c.args.desk.now c.handle-reply.new.self c.args.form c.args.asked.now c.handle-reply.result
    (short_text c.handle-reply.result ≡ None) (others-unsent c.args.asked.now.request c.handle-reply.result other)
    (replies_at g.A.Store c.args.desk.now c.handle-reply.new.self c.args.asked.now c.handle-reply.result c.asked_fits.ensures
    (record { charter = c.handle-reply.ensures.charter; limit = c.handle-reply.ensures.limit; clean = c.handle-reply.ensures.clean })
    c.handle-reply.ensures.left c.handle-reply.ensures.kept c.handle-reply.ensures.kept_day (λ is. absurd (other is)))
    c.write_reply_response.result
    (AppendsBeginning (g.D.Drain.written c.args.drain.now) (g.D.Drain.written c.write_reply_response.new.drain))
    c.write_reply_response.ensures.err
