use Rattle.store_read.proofs.Vocabulary.{sym, ◌∙◌, state, Schema, Auth, ClaimFits, EntryRowFits, items_if_any, AreInOrder, EachRowsOf, refused_by}
use Rattle.store_read.proofs.AuthsFound.{auths_found, if_made, never_none, only_refused}
use Rattle.store_read.proofs.Loading.{claims_fit, entries_fit, never_fit}
use Rattle.store_read.proofs.InTurn.{earlier, later, unfit_later}
use Rattle.store_read.proofs.load.load_auths.Goals as goal

pub returns-in_err-claims-clause-schema : goal.returns-in_err-claims-clause-schema
returns-in_err-claims-clause-schema g c clean is =
    never_fit ClaimFits (state g.S.Store c.args.conn.now) claims_fit
    (c.load_values.ensures.schema clean (refused_by _ _ _ c.in_err-claims.was c.from_residual.ensures.1 is))

pub returns-in_err-rows-clause-schema : goal.returns-in_err-rows-clause-schema
returns-in_err-rows-clause-schema g c clean is =
    unfit_later g.S.Store c.in_ok-claims.ensures.asked (earlier g.S.Store c.load_values-2.ensures.asked clean)
    (never_fit EntryRowFits (state g.S.Store c.load_values.new.conn) entries_fit
    (c.load_values-2.ensures.schema clean (refused_by _ _ _ c.in_err-rows.was c.from_residual-in_err-rows.ensures.1 is)))

pub returns-clause-found : goal.returns-clause-found
returns-clause-found g c clean =
    let old = state g.S.Store c.args.conn.now in
    let clean_1 = earlier g.S.Store c.load_values-2.ensures.asked clean in
    let first = earlier g.S.Store c.load_values.ensures.asked clean_1 in
    let opened = (c.in_ok-claims.ensures.asked.same clean_1).0.was_open in
    if_made c.in_ok-auths_of.field-0 Schema c.ok_or.result _ _
    (λ auths. EachRowsOf (λ held. AreInOrder (λ (x : Auth). x.number) (items_if_any (λ r. r.auths) held) auths.items) c.args.holder.now old) c.ok_or.ensures.value (rw (c.deref.ensures.value, c.deref-2.ensures.value) at c.in_ok-auths_of.ensures) (λ made are charter all holds.
    auths_found c.claims_differ.ensures charter all old.now (c.schema-schema.ensures.live opened).0 (c.requires.tables first opened) holds c.args.holder.now c.in_ok-claims.claims.items c.in_ok-rows.rows.items
    (c.in_ok-claims.ensures.found clean_1 charter all holds) (c.in_ok-claims.ensures.rising clean_1)
    (c.in_ok-rows.ensures.found clean charter all (later g.S.Store c.in_ok-claims.ensures.asked clean_1 charter all holds)) (c.in_ok-rows.ensures.rising clean) made.items are)

pub returns-clause-schema : goal.returns-clause-schema
returns-clause-schema g c clean is =
    let old = state g.S.Store c.args.conn.now in
    let clean_1 = earlier g.S.Store c.load_values-2.ensures.asked clean in
    let first = earlier g.S.Store c.load_values.ensures.asked clean_1 in
    let opened = (c.in_ok-claims.ensures.asked.same clean_1).0.was_open in
    let none = only_refused c.in_ok-auths_of.field-0 Schema _ _ (rw (c.deref.ensures.value, c.deref-2.ensures.value) at c.in_ok-auths_of.ensures) (sym c.ok_or.ensures.value ∙ is) in (
      opened,
      λ charter all holds fit.
          never_none c.claims_differ.ensures charter all old.now (c.schema-schema.ensures.live opened).0 (c.requires.tables first opened) holds c.args.holder.now c.in_ok-claims.claims.items c.in_ok-rows.rows.items
          (c.in_ok-claims.ensures.found clean_1 charter all holds) (c.in_ok-claims.ensures.rising clean_1)
          (c.in_ok-rows.ensures.found clean charter all (later g.S.Store c.in_ok-claims.ensures.asked clean_1 charter all holds)) (c.in_ok-rows.ensures.rising clean) none,
    )
