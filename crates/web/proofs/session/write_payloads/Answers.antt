use Rattle.web.proofs.Vocabulary.{Payloads, Unavailable}
use Rattle.payload.specs.VrpSet as set
use Rattle.web.proofs.DeskReplies.{lent_replies}
use Rattle.web.proofs.VrpLemmas.{on-err-then, on-ok-then}
use Rattle.web.proofs.session.write_payloads.Goals as goal

pub returns-in-Some-clause-ok : goal.returns-in-Some-clause-ok
returns-in-Some-clause-ok g c =
    let at = rw c.in-Some.is at (lent_replies g.A.Store c.args.desk.now c.payloads.follows.lender-at-none c.args.asked.now c.payloads.result c.requires c.payloads.follows.holds-at-none) in
    on-ok-then c.write_line.result _ _ (λ written. (Payloads (set.items c.in-Some.vrps.now), at, written)) c.write_line.ensures.ok

pub returns-in-Some-clause-err : goal.returns-in-Some-clause-err
returns-in-Some-clause-err g c =
    let at = rw c.in-Some.is at (lent_replies g.A.Store c.args.desk.now c.payloads.follows.lender-at-none c.args.asked.now c.payloads.result c.requires c.payloads.follows.holds-at-none) in
    on-err-then c.write_line.result _ _ (λ begins. (Payloads (set.items c.in-Some.vrps.now), at, begins)) c.write_line.ensures.err

pub returns-in-None-clause-ok : goal.returns-in-None-clause-ok
returns-in-None-clause-ok g c =
    let at = rw c.in-None.is at (lent_replies g.A.Store c.args.desk.now c.payloads.follows.lender-at-none c.args.asked.now c.payloads.result c.requires c.payloads.follows.holds-at-none) in
    on-ok-then c.write_reply.result _ _ (λ written. (Unavailable, at, written)) c.write_reply.ensures.ok

pub returns-in-None-clause-err : goal.returns-in-None-clause-err
returns-in-None-clause-err g c =
    let at = rw c.in-None.is at (lent_replies g.A.Store c.args.desk.now c.payloads.follows.lender-at-none c.args.asked.now c.payloads.result c.requires c.payloads.follows.holds-at-none) in
    on-err-then c.write_reply.result _ _ (λ begins. (Unavailable, at, begins)) c.write_reply.ensures.err
