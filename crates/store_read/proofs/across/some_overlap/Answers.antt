use Rattle.store_read.proofs.Vocabulary.{[], ◌∷◌, ap, ◌∙◌, state, Blob, address_bytes, number_cell, family_number, overlap_is}
use Rattle.store_read.proofs.Overlapping.{overlap-iff}
use Rattle.store_read.proofs.InTurn.{earlier}
use Rattle.store_read.proofs.across.some_overlap.Goals as goal

pub ask-requires-clause-plain : goal.ask-requires-clause-plain
ask-requires-clause-plain g c = overlap_is.plain

pub returns-clause-found : goal.returns-clause-found
returns-clause-found g c clean charter all holds =
    let old = state g.S.Store c.args.conn.now in
    let p = c.args.prefix.now in
    let begun = earlier g.S.Store c.ask.ensures.asked clean in
    let ends = c.address_bytes-last.ensures ∙ ap address_bytes c.last.ensures in
    overlap-iff p old (state g.S.Store c.ask.new.conn) (c.requires.tables begun) _
    (c.run_values.ensures ∙ (λ i. number_cell (family_number p.family) ∷ Blob (c.address_bytes-first.ensures i) ∷ Blob (ends i) ∷ []))
    c.in_ok-found.found.items (c.in_ok-found.ensures.shown clean) c.is_empty.result c.in_ok-found.found.len c.in_ok-found.found.ok.0 c.is_empty.ensures all holds.holdings
