use Rattle.store_open.proofs.Vocabulary.{◌==◌, [], ◌∷◌, length, sym, ap, ◌∙◌, both_ways, eq-eqb, state_in}
use Rattle.store_open.proofs.AllTexts.{selects_auth}
use Rattle.store_open.proofs.Grouped.{no_row}
use Rattle.store_open.proofs.Unread.{no_rows_in, rows_of_none}
use Rattle.store_open.proofs.reading.read_unused.Goals as goal

pub ask_all-requires-clause-plain : goal.ask_all-requires-clause-plain
ask_all-requires-clause-plain g c = selects_auth.plain

pub ask_all-requires-clause-unlisted : goal.ask_all-requires-clause-unlisted
ask_all-requires-clause-unlisted g c = selects_auth.unlisted

pub returns-then-not-is_empty-clause-schema : goal.returns-then-not-is_empty-clause-schema
returns-then-not-is_empty-clause-schema g c clean is read =
    let db = (state_in g.S.Store c.args.tx.now).now in
    let rows = c.in_ok-rows.rows.items in
    let none = rows_of_none (1 ∷ 2 ∷ 3 ∷ 4 ∷ 5 ∷ 6 ∷ 7 ∷ 8 ∷ []) (db.trees 12) rows (selects_auth.found db rows (c.in_ok-rows.ensures.answered clean)) read.authorizations.unused in
    both_ways _ c.if-not-is_empty.true (c.is_empty.ensures ∙ eq-eqb c.in_ok-rows.rows.len 0 (c.in_ok-rows.rows.ok.0 ∙ ap length none))

pub returns-clause-found : goal.returns-clause-found
returns-clause-found g c clean =
    let db = (state_in g.S.Store c.args.tx.now).now in
    let rows = c.in_ok-rows.rows.items in
    let none = no_row rows (sym (c.is_empty.ensures ∙ ap (λ n. n == 0) c.in_ok-rows.rows.ok.0) ∙ c.if-not-is_empty.false) in
    no_rows_in (1 ∷ 2 ∷ 3 ∷ 4 ∷ 5 ∷ 6 ∷ 7 ∷ 8 ∷ []) (db.trees 12) rows (selects_auth.found db rows (c.in_ok-rows.ensures.answered clean)) none
