use Rattle.store_read.proofs.Vocabulary.{List, sym, ap, subst, IfOk-weaker, Vec, Database, state, SELECT_PAYLOADS, payloads_is, AnswersSelect, ClaimKey, of_claims, ClaimsRise, ShowVrps}
use Rattle.store_read.proofs.InForce.{taken_found}
use Rattle.store_read.proofs.InTurn.{earlier}
use Rattle.store_read.proofs.across.take_in_force.Goals as goal

pub take_each-requires-clause-plain : goal.take_each-requires-clause-plain
take_each-requires-clause-plain g c = payloads_is.plain

pub take_each-requires-clause-unlisted : goal.take_each-requires-clause-unlisted
take_each-requires-clause-unlisted g c = payloads_is.unlisted

pub returns-clause-taken : goal.returns-clause-taken
returns-clause-taken g c clean =
    let old = state g.S.Store c.args.conn.now in
    let mid = earlier g.S.Store c.take_each.ensures.asked clean in
    let claims = c.in_ok-claims.claims.items in
    let same = (c.in_ok-claims.ensures.asked.same mid).0.now_is in
    let own = ap (λ (v : Vec ClaimKey). v.items) c.in_ok-none.ensures.claims in
    let rise = subst ClaimsRise (sym own) (c.in_ok-claims.ensures.rising mid) in
    IfOk-weaker c.take_each.result _ _ (λ taken it. (
      of_claims claims it.0,
      taken_found c.args.day old.now claims it.0 (c.in_ok-claims.ensures.found mid) (subst (λ (db : Database). AnswersSelect SELECT_PAYLOADS.now db it.0) same it.1),
      subst (λ (l : List ClaimKey). ShowVrps (of_claims l it.0) taken.vrps.items taken.is_read) own (it.2.1 rise),
    )) (c.take_each.ensures.taken clean)
