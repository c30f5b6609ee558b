use Rattle.store_read.proofs.Vocabulary.{◌<◌, ◌^◌, [], ◌∷◌, ◌∙◌, arith, state, Blob, number_cell, family_number, run_below_is}
use Rattle.store_read.proofs.InTurn.{earlier}
use Rattle.store_read.proofs.RunsBelow.{found_below}
use Rattle.store_read.proofs.below.run_below.Goals as goal

pub ask-requires-clause-plain : goal.ask-requires-clause-plain
ask-requires-clause-plain g c = run_below_is.plain

pub returns-clause-found : goal.returns-clause-found
returns-clause-found g c clean charter all holds =
    let old = state g.S.Store c.args.conn.now in
    let begun = earlier g.S.Store c.ask.ensures.asked clean in
    let fits : c.args.address < 2 ^ 128 = omega arith in
    let rows = c.in_ok-found.found in
    found_below c.args.family c.args.address fits old (state g.S.Store c.ask.new.conn) (c.requires.tables begun) _
    (c.below_values.ensures ∙ (λ i. number_cell (family_number c.args.family) ∷ Blob (c.address_bytes-bytes.ensures i) ∷ []))
    rows.items (c.in_ok-found.ensures.shown clean) c.pop.new.self.items c.pop.result c.pop.ensures.items
    (λ some. omega (arith, c.pop.ensures.variant.0 some, rows.ok), λ below. c.pop.ensures.variant.1 (omega (arith, below, rows.ok))) all holds.holdings
