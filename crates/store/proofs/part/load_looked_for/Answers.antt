use Rattle.store.proofs.Vocabulary.{IfOk-weaker, state, refused_by, auths_held, earlier, later, unfit_later}
use Rattle.store.proofs.PartFound.{all_looked_for, numbered_once}
use Rattle.store.proofs.part.load_looked_for.Goals as goal

pub returns-in_err-numbers-clause-schema : goal.returns-in_err-numbers-clause-schema
returns-in_err-numbers-clause-schema g c clean is = c.load_numbers.ensures.schema clean (refused_by _ _ _ c.in_err-numbers.was c.from_residual.ensures.1 is)

pub returns-clause-schema : goal.returns-clause-schema
returns-clause-schema g c clean is = unfit_later g.S.Store c.in_ok-numbers.ensures.asked (earlier g.S.Store c.load_each.ensures.asked clean) (c.load_each.ensures.schema clean is)

pub returns-clause-found : goal.returns-clause-found
returns-clause-found g c clean =
    let h = c.args.holder.now in
    let old = state g.S.Store c.args.conn.now in
    let numbers = c.in_ok-numbers.numbers.items in
    let asked = c.in_ok-numbers.ensures.asked in
    let clean_1 = earlier g.S.Store c.load_each.ensures.asked clean in
    let first = earlier g.S.Store c.load_numbers.ensures.asked clean_1 in
    let opened = (asked.same clean_1).0.was_open in
    IfOk-weaker c.load_each.result _ _ (λ auths loaded charter all holds.
    all_looked_for c.args.changes.now (auths_held (all.of_holder h)) numbers auths.items
    (numbered_once c.claims_differ.ensures charter all old.now (c.schema-schema.ensures.live opened).0 (c.requires.ready.tables first opened) holds h)
    (c.in_ok-numbers.ensures.found clean_1 charter all holds) (loaded charter all (later g.S.Store asked clean_1 charter all holds)))
    (rw c.deref.ensures.value at (c.load_each.ensures.found clean))
