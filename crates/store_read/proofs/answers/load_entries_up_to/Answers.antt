use Rattle.store_read.proofs.Vocabulary.{[], ◌∷◌, ◌∙◌, ap, state, Blob, Text, address_bytes, family_number, number_cell, EntryRowFits, entries_up_to_is, by_entry, begins_up_to, entries_up_to}
use Rattle.store_read.proofs.Finding.{selects_up_to, up_to_params}
use Rattle.store_read.proofs.GivenAuths.{tested_fit}
use Rattle.store_read.proofs.Loading.{never_fit}
use Rattle.store_read.proofs.answers.load_entries_up_to.Goals as goal

pub load_selected-requires-clause-plain : goal.load_selected-requires-clause-plain
load_selected-requires-clause-plain g c = entries_up_to_is.plain

pub returns-clause-found : goal.returns-clause-found
returns-clause-found g c =
    let h = c.args.holder.now in
    let p = c.args.prefix.now in
    let bound_as =
    c.up_to_values-values.ensures
    ∙ ap (λ bytes. Text h ∷ number_cell (family_number p.family) ∷ Blob bytes ∷ []) (c.address_bytes-last.ensures ∙ ap address_bytes c.last.ensures) in
    c.load_selected.ensures.found h (up_to_params h p) (entries_up_to p) by_entry bound_as (selects_up_to h p)

pub returns-clause-schema : goal.returns-clause-schema
returns-clause-schema g c clean is =
    let h = c.args.holder.now in
    let p = c.args.prefix.now in
    let bound_as =
    c.up_to_values-values.ensures
    ∙ ap (λ bytes. Text h ∷ number_cell (family_number p.family) ∷ Blob bytes ∷ []) (c.address_bytes-last.ensures ∙ ap address_bytes c.last.ensures) in
    never_fit EntryRowFits (state g.S.Store c.args.conn.now) (tested_fit (begins_up_to p))
    (c.load_selected.ensures.schema h (up_to_params h p) (entries_up_to p) by_entry bound_as (selects_up_to h p) clean is)
