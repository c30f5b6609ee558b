use Rattle.store_open.proofs.Vocabulary.{subst, refl, Database, state, ClaimFits, NamedFits, claim, SELECT_ALL_CLAIMS, AnswersSelect, AreOfSome, ClaimsRead, show_claim, claim_places}
use Rattle.store_open.proofs.AllTexts.{counts_claims, selects_claim}
use Rattle.store_open.proofs.Collecting.{some_untaken, taken_read, taken_rise}
use Rattle.store_open.proofs.InTurn.{earlier}
use Rattle.store_open.proofs.Rowids.{is_tree, shown_of}
use Rattle.store_open.proofs.reading.collect_claims.Goals as goal

pub ask_number-requires-clause-plain : goal.ask_number-requires-clause-plain
ask_number-requires-clause-plain g c = counts_claims

pub take_each-requires-clause-plain : goal.take_each-requires-clause-plain
take_each-requires-clause-plain g c = selects_claim.plain

pub take_each-requires-clause-unlisted : goal.take_each-requires-clause-unlisted
take_each-requires-clause-unlisted g c = selects_claim.unlisted

pub returns-in_default-clause-schema : goal.returns-in_default-clause-schema
returns-in_default-clause-schema g c clean is =
    let db = (state g.S.Store c.args.conn.now).now in
    let now = (c.in_ok-count.ensures.asked.same (earlier c.take_each.ensures.asked.survives clean)).0.now_is in
    let it = c.in_ok-collected.ensures.taken clean in
    let found = selects_claim.found db it.0 (subst (λ (d : Database). AnswersSelect SELECT_ALL_CLAIMS.now d it.0) now it.1) in
    some_untaken show_claim (NamedFits ClaimFits) 5 it.0 _ (shown_of 5 claim_places (db.trees claim.tree) it.0 refl found) (it.2.unread c.in_default.ensures)

pub returns-clause-tree : goal.returns-clause-tree
returns-clause-tree g c clean =
    let db = (state g.S.Store c.args.conn.now).now in
    let now = (c.in_ok-count.ensures.asked.same (earlier c.take_each.ensures.asked.survives clean)).0.now_is in
    let it = c.in_ok-collected.ensures.taken clean in
    let found = selects_claim.found db it.0 (subst (λ (d : Database). AnswersSelect SELECT_ALL_CLAIMS.now d it.0) now it.1) in
    let held = it.2.read c.in-Some.ensures.0 in
    is_tree claim_places (db.trees claim.tree) it.0 found (taken_rise show_claim (NamedFits ClaimFits) 5 it.0 _ _ held.2)

pub returns-clause-read : goal.returns-clause-read
returns-clause-read g c clean =
    let db = (state g.S.Store c.args.conn.now).now in
    let now = (c.in_ok-count.ensures.asked.same (earlier c.take_each.ensures.asked.survives clean)).0.now_is in
    let it = c.in_ok-collected.ensures.taken clean in
    let found = selects_claim.found db it.0 (subst (λ (d : Database). AnswersSelect SELECT_ALL_CLAIMS.now d it.0) now it.1) in
    let held = it.2.read c.in-Some.ensures.0 in
    let read : AreOfSome (ClaimsRead db) _ = (held.0, held.1, taken_read show_claim (NamedFits ClaimFits) 5 it.0 _ (shown_of 5 claim_places (db.trees claim.tree) it.0 refl found) _ _ held.2) in
    rw c.in-Some.ensures.1 read
