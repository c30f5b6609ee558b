use Rattle.store_open.proofs.Vocabulary.{state_in, always}
use Rattle.store_open.proofs.Rowids.{is_tree, shown_of, values_read, some_unread}
use Rattle.store_open.proofs.reading.read_table.Goals as goal

pub returns-clause-tree : goal.returns-clause-tree
returns-clause-tree g c clean =
    let db = (state_in g.S.Store c.args.tx.now).now in
    let asks = c.select_all.ensures.selects in
    let rows = c.in_ok-rows.rows.items in
    always c.read_all.result (is_tree g.T.InTable.places (db.trees g.T.InTable.tree) rows (asks.found db rows (c.in_ok-rows.ensures.answered clean)) c.in_ok-rows.ensures.rise)

pub returns-clause-read : goal.returns-clause-read
returns-clause-read g c clean =
    let db = (state_in g.S.Store c.args.tx.now).now in
    let asks = c.select_all.ensures.selects in
    let rows = c.in_ok-rows.rows.items in
    let same = shown_of g.T.FromRow.width g.T.InTable.places (db.trees g.T.InTable.tree) rows asks.counted (asks.found db rows (c.in_ok-rows.ensures.answered clean)) in
    values_read g.T.FromRow.cells g.T.FromRow.fits _ _ same c.read_all.result (rw c.deref.ensures.value at c.read_all.ensures.shown) c.read_all.ensures.fits

pub returns-clause-schema : goal.returns-clause-schema
returns-clause-schema g c clean refused =
    let db = (state_in g.S.Store c.args.tx.now).now in
    let asks = c.select_all.ensures.selects in
    let rows = c.in_ok-rows.rows.items in
    let same = shown_of g.T.FromRow.width g.T.InTable.places (db.trees g.T.InTable.tree) rows asks.counted (asks.found db rows (c.in_ok-rows.ensures.answered clean)) in
    some_unread g.T.FromRow.cells g.T.FromRow.fits _ _ same (rw c.deref.ensures.value at (c.read_all.ensures.schema refused))

pub returns-clause-unread : goal.returns-clause-unread
returns-clause-unread g c clean refused read = returns-clause-schema g c clean refused (c.select_all.ensures.shows (state_in g.S.Store c.args.tx.now).now read)
