use Rattle.web.proofs.DeskReplies.{replies_at, unless_so}
use Rattle.web.proofs.VrpLemmas.{on-err-then, on-ok-then}
use Rattle.web.proofs.session.reply_to.Goals as goal

pub returns-clause-ok : goal.returns-clause-ok
returns-clause-ok g c =
    let other = unless_so c.if-asks_for_vrps.ensures in
    let at = replies_at g.A.Store c.args.desk.now c.handle-reply.new.self c.args.asked.now c.handle-reply.result c.asked_fits.ensures
    (record { charter = c.handle-reply.ensures.charter; limit = c.handle-reply.ensures.limit; clean = c.handle-reply.ensures.clean })
    c.handle-reply.ensures.left c.handle-reply.ensures.kept c.handle-reply.ensures.kept_day (λ is. absurd (other is)) in
    on-ok-then c.write_reply.result _ _ (λ written. (c.handle-reply.result, at, written)) c.write_reply.ensures.ok

pub returns-clause-err : goal.returns-clause-err
returns-clause-err g c =
    let other = unless_so c.if-asks_for_vrps.ensures in
    let at = replies_at g.A.Store c.args.desk.now c.handle-reply.new.self c.args.asked.now c.handle-reply.result c.asked_fits.ensures
    (record { charter = c.handle-reply.ensures.charter; limit = c.handle-reply.ensures.limit; clean = c.handle-reply.ensures.clean })
    c.handle-reply.ensures.left c.handle-reply.ensures.kept c.handle-reply.ensures.kept_day (λ is. absurd (other is)) in
    on-err-then c.write_reply.result _ _ (λ begins. (c.handle-reply.result, at, begins)) c.write_reply.ensures.err
