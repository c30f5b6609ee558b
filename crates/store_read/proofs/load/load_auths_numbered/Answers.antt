use Rattle.store_read.proofs.Vocabulary.{[], ◌∷◌, filter, sym, ◌∙◌, state, Text, Schema, Auth, number_cell, ClaimFits, EntryRowFits, numbered_claim_is, numbered_entries_is, by_entry, AreInOrder, EachRowsOf, auths_held, by_column, refused_by}
use Rattle.store_read.proofs.AuthsFound.{if_made, only_refused}
use Rattle.store_read.proofs.Finding.{claims_numbered, entries_numbered, has_number, selects_claim, selects_entries}
use Rattle.store_read.proofs.Loading.{never_fit}
use Rattle.store_read.proofs.NumberFound.{never_no_number, number_found, numbered_claims_fit, numbered_entries_fit}
use Rattle.store_read.proofs.InTurn.{earlier, later, unfit_later}
use Rattle.store_read.proofs.load.load_auths_numbered.Goals as goal

pub load_selected-requires-clause-plain : goal.load_selected-requires-clause-plain
load_selected-requires-clause-plain g c = numbered_claim_is.plain

pub load_selected-requires-2-clause-plain : goal.load_selected-requires-2-clause-plain
load_selected-requires-2-clause-plain g c = numbered_entries_is.plain

pub returns-in_err-claims-clause-schema : goal.returns-in_err-claims-clause-schema
returns-in_err-claims-clause-schema g c clean is =
    let h = c.args.holder.now in
    let n = c.args.number in
    never_fit ClaimFits (state g.S.Store c.args.conn.now) (numbered_claims_fit n)
    (c.load_selected.ensures.schema h (Text h ∷ number_cell n ∷ []) (claims_numbered n) (by_column 0) c.number_values-values.ensures (selects_claim h n) clean
    (refused_by _ _ _ c.in_err-claims.was c.from_residual.ensures.1 is))

pub returns-in_err-rows-clause-schema : goal.returns-in_err-rows-clause-schema
returns-in_err-rows-clause-schema g c clean is =
    let h = c.args.holder.now in
    let n = c.args.number in
    unfit_later g.S.Store c.in_ok-claims.ensures.asked (earlier g.S.Store c.load_selected-2.ensures.asked clean)
    (never_fit EntryRowFits (state g.S.Store c.load_selected.new.conn) (numbered_entries_fit n)
    (c.load_selected-2.ensures.schema h (Text h ∷ number_cell n ∷ []) (entries_numbered n) by_entry c.number_values-values.ensures (selects_entries h n) clean
    (refused_by _ _ _ c.in_err-rows.was c.from_residual-in_err-rows.ensures.1 is)))

pub returns-clause-found : goal.returns-clause-found
returns-clause-found g c clean =
    let h = c.args.holder.now in
    let n = c.args.number in
    let old = state g.S.Store c.args.conn.now in
    let params = Text h ∷ number_cell n ∷ [] in
    let bound_as = c.number_values-values.ensures in
    let clean_1 = earlier g.S.Store c.load_selected-2.ensures.asked clean in
    let first = earlier g.S.Store c.load_selected.ensures.asked clean_1 in
    let opened = (c.in_ok-claims.ensures.asked.same clean_1).0.was_open in
    if_made c.in_ok-auths_of.field-0 Schema c.ok_or.result _ _
    (λ auths. EachRowsOf (λ held. AreInOrder (λ (x : Auth). x.number) (filter (has_number n) (auths_held held)) auths.items) h old) c.ok_or.ensures.value (rw (c.deref.ensures.value, c.deref-2.ensures.value) at c.in_ok-auths_of.ensures) (λ made are charter all holds.
    number_found c.claims_differ.ensures charter all old.now (c.schema-schema.ensures.live opened).0 (c.requires.tables first opened) holds h n c.in_ok-claims.claims.items c.in_ok-rows.rows.items
    (c.in_ok-claims.ensures.found h params (claims_numbered n) (by_column 0) bound_as (selects_claim h n) clean_1 charter all holds)
    (c.in_ok-claims.ensures.rising h params (claims_numbered n) (by_column 0) bound_as (selects_claim h n) clean_1)
    (c.in_ok-rows.ensures.found h params (entries_numbered n) by_entry bound_as (selects_entries h n) clean charter all (later g.S.Store c.in_ok-claims.ensures.asked clean_1 charter all holds))
    (c.in_ok-rows.ensures.rising h params (entries_numbered n) by_entry bound_as (selects_entries h n) clean) made.items are)

pub returns-clause-schema : goal.returns-clause-schema
returns-clause-schema g c clean is =
    let h = c.args.holder.now in
    let n = c.args.number in
    let old = state g.S.Store c.args.conn.now in
    let params = Text h ∷ number_cell n ∷ [] in
    let bound_as = c.number_values-values.ensures in
    let clean_1 = earlier g.S.Store c.load_selected-2.ensures.asked clean in
    let first = earlier g.S.Store c.load_selected.ensures.asked clean_1 in
    let opened = (c.in_ok-claims.ensures.asked.same clean_1).0.was_open in
    let none = only_refused c.in_ok-auths_of.field-0 Schema _ _ (rw (c.deref.ensures.value, c.deref-2.ensures.value) at c.in_ok-auths_of.ensures) (sym c.ok_or.ensures.value ∙ is) in (
      opened,
      λ charter all holds fit.
          never_no_number c.claims_differ.ensures charter all old.now (c.schema-schema.ensures.live opened).0 (c.requires.tables first opened) holds h n c.in_ok-claims.claims.items c.in_ok-rows.rows.items
          (c.in_ok-claims.ensures.found h params (claims_numbered n) (by_column 0) bound_as (selects_claim h n) clean_1 charter all holds)
          (c.in_ok-claims.ensures.rising h params (claims_numbered n) (by_column 0) bound_as (selects_claim h n) clean_1)
          (c.in_ok-rows.ensures.found h params (entries_numbered n) by_entry bound_as (selects_entries h n) clean charter all (later g.S.Store c.in_ok-claims.ensures.asked clean_1 charter all holds))
          (c.in_ok-rows.ensures.rising h params (entries_numbered n) by_entry bound_as (selects_entries h n) clean) none,
    )
