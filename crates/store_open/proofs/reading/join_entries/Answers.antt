use Rattle.store_open.proofs.Vocabulary.{[], refl, sym, ap, subst, ◌∙◌, List, Vec, state, ClaimKey, JoinsRows, AreOfAll}
use Rattle.store_open.proofs.EntriesByKey.{entries_by_key_is, joined_in, not_joined_in}
use Rattle.store_open.proofs.reading.join_entries.Goals as goal

abbrev items : Vec ClaimKey → List ClaimKey
items v = v.items

pub take_each-requires-clause-plain : goal.take_each-requires-clause-plain
take_each-requires-clause-plain g c = entries_by_key_is.plain

pub take_each-requires-clause-unlisted : goal.take_each-requires-clause-unlisted
take_each-requires-clause-unlisted g c = entries_by_key_is.unlisted

pub take_each-requires-clause-begun : goal.take_each-requires-clause-begun
take_each-requires-clause-begun g c =
    let s = c.start-start.result in
    (refl, subst (λ (v : Vec ClaimKey). AreOfAll (λ all. JoinsRows all [] s.passed s.found.items s.fits) v.items) (sym c.start-start.ensures.claims) c.start-start.ensures.joins)

pub returns-then-not-is_whole-clause-schema : goal.returns-then-not-is_whole-clause-schema
returns-then-not-is_whole-clause-schema g c clean is all keyed =
    let it = c.in_ok-joined.ensures.taken clean in
    let at_start = keyed ∙ sym (ap items c.start-start.ensures.claims) in
    let joins = it.2.1 all at_start in
    not_joined_in (state g.S.Store c.args.conn.now).now it.0 it.1 all (c.if-not-is_whole.ensures all (at_start ∙ sym (ap items it.2.0)) it.0 joins)

pub returns-clause-found : goal.returns-clause-found
returns-clause-found g c clean all keyed =
    let it = c.in_ok-joined.ensures.taken clean in
    let at_start = keyed ∙ sym (ap items c.start-start.ensures.claims) in
    let joins = it.2.1 all at_start in
    joined_in (state g.S.Store c.args.conn.now).now it.0 it.1 all (c.if-not-is_whole.ensures all (at_start ∙ sym (ap items it.2.0)) it.0 joins)
