use Rattle.web.proofs.Vocabulary.{◌≡◌, ◌++◌, ◌≤◌, ◌^◌, length, inl, refl, Payloads, Unavailable, csv_of, AppendsBeginning, unavailable_response}
use Rattle.payload.specs.VrpSet as set
use Rattle.web.proofs.DeskReplies.{lent_replies}
use Rattle.web.proofs.HttpLemmas.{asked-err, asked-ok}
use Rattle.web.proofs.VrpLemmas.{on-err-then, on-ok-then}
use Rattle.web.proofs.http.response.write_payloads.Goals as goal

pub returns-in-Some-clause-ok : goal.returns-in-Some-clause-ok
returns-in-Some-clause-ok g c =
    let at = rw c.in-Some.is at (lent_replies g.A.Store c.args.desk.now c.counted_payloads.follows.lender-at-none c.args.asked.now c.counted_payloads.result c.requires c.counted_payloads.follows.holds-at-none) in
    asked-ok g.A.Store c.args.desk.now c.counted_payloads.follows.lender-at-none c.args.form c.args.asked.now
    (Payloads (set.items c.in-Some.vrps.now)) (2 ^ 64 ≤ length (csv_of c.in-Some.vrps.now))
    (λ over. rw c.requires (set.items c.in-Some.vrps.now, refl, over)) at c.write_vrps_response.result
    (λ text. g.D.Drain.written c.write_vrps_response.new.drain ≡ g.D.Drain.written c.args.drain.now ++ text) c.write_vrps_response.ensures.ok

pub returns-in-Some-clause-err : goal.returns-in-Some-clause-err
returns-in-Some-clause-err g c =
    let at = rw c.in-Some.is at (lent_replies g.A.Store c.args.desk.now c.counted_payloads.follows.lender-at-none c.args.asked.now c.counted_payloads.result c.requires c.counted_payloads.follows.holds-at-none) in
    asked-err g.A.Store c.args.desk.now c.counted_payloads.follows.lender-at-none c.args.form c.args.asked.now
    (Payloads (set.items c.in-Some.vrps.now)) (2 ^ 64 ≤ length (csv_of c.in-Some.vrps.now))
    (λ over. rw c.requires (set.items c.in-Some.vrps.now, refl, over)) at c.write_vrps_response.result
    (AppendsBeginning (g.D.Drain.written c.args.drain.now) (g.D.Drain.written c.write_vrps_response.new.drain)) c.write_vrps_response.ensures.err

pub returns-in-Some-clause-later : goal.returns-in-Some-clause-later
returns-in-Some-clause-later g c =
    (lent_replies g.A.Store c.args.desk.now c.counted_payloads.follows.lender-at-none c.args.asked.now c.counted_payloads.result c.requires c.counted_payloads.follows.holds-at-none).later

pub returns-in-None-clause-ok : goal.returns-in-None-clause-ok
returns-in-None-clause-ok g c =
    let at = rw c.in-None.is at (lent_replies g.A.Store c.args.desk.now c.counted_payloads.follows.lender-at-none c.args.asked.now c.counted_payloads.result c.requires c.counted_payloads.follows.holds-at-none) in
    on-ok-then c.write_unavailable.result _ _ (λ written. (unavailable_response, inl (Unavailable, refl, at), written)) c.write_unavailable.ensures.ok

pub returns-in-None-clause-err : goal.returns-in-None-clause-err
returns-in-None-clause-err g c =
    let at = rw c.in-None.is at (lent_replies g.A.Store c.args.desk.now c.counted_payloads.follows.lender-at-none c.args.asked.now c.counted_payloads.result c.requires c.counted_payloads.follows.holds-at-none) in
    on-err-then c.write_unavailable.result _ _ (λ begins. (unavailable_response, inl (Unavailable, refl, at), begins)) c.write_unavailable.ensures.err

pub returns-in-None-clause-later : goal.returns-in-None-clause-later
returns-in-None-clause-later g c =
    (lent_replies g.A.Store c.args.desk.now c.counted_payloads.follows.lender-at-none c.args.asked.now c.counted_payloads.result c.requires c.counted_payloads.follows.holds-at-none).later
