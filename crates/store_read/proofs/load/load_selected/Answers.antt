use Rattle.store_read.proofs.Vocabulary.{sym, subst, ◌∙◌, IfOk-weaker, IsSorted, state, items_if_any, values_shown, all_show, answered}
use Rattle.store_read.proofs.InTurn.{earlier}
use Rattle.store_read.proofs.load.load_selected.Goals as goal

pub returns-clause-found : goal.returns-clause-found
returns-clause-found g c h params items cmp are selects clean =
    let old = state g.S.Store c.args.conn.now in
    let first = earlier g.S.Store c.ask.ensures.asked clean in
    let rows = c.in_ok-rows.rows.items in
    let it = answered c.args.sql.now params _ old (state g.S.Store c.ask.new.conn) rows selects.plain selects.unlisted (c.requires.ready.tables first) are (c.in_ok-rows.ensures.shown clean) in
    IfOk-weaker c.read_all.result _ _ (λ values shown charter all holds.
    values_shown g.T.FromRow.cells selects.once (items_if_any items (all.of_holder h)) values.items rows (selects.found old.now rows it charter all holds) (sym (selects.whole old.now rows it) ∙ shown))
    (rw c.deref.ensures.value at c.read_all.ensures.shown)

pub returns-clause-rising : goal.returns-clause-rising
returns-clause-rising g c h params items cmp are selects clean =
    let old = state g.S.Store c.args.conn.now in
    let first = earlier g.S.Store c.ask.ensures.asked clean in
    let rows = c.in_ok-rows.rows.items in
    let it = answered c.args.sql.now params _ old (state g.S.Store c.ask.new.conn) rows selects.plain selects.unlisted (c.requires.ready.tables first) are (c.in_ok-rows.ensures.shown clean) in
    IfOk-weaker c.read_all.result _ _ (λ values shown. subst (IsSorted cmp) (sym (selects.whole old.now rows it) ∙ shown) (selects.rising old.now rows it))
    (rw c.deref.ensures.value at c.read_all.ensures.shown)

pub returns-clause-schema : goal.returns-clause-schema
returns-clause-schema g c h params items cmp are selects clean refused =
    let old = state g.S.Store c.args.conn.now in
    let first = earlier g.S.Store c.ask.ensures.asked clean in
    let rows = c.in_ok-rows.rows.items in
    let it = answered c.args.sql.now params _ old (state g.S.Store c.ask.new.conn) rows selects.plain selects.unlisted (c.requires.ready.tables first) are (c.in_ok-rows.ensures.shown clean) in
    let whole = selects.whole old.now rows it in (
      (c.in_ok-rows.ensures.asked.same clean).0.was_open,
      λ charter all holds fit. all_show g.T.FromRow.cells g.T.FromRow.fits (items_if_any items (all.of_holder h)) rows fit (selects.found old.now rows it charter all holds)
          (rw whole at (rw c.deref.ensures.value at (c.read_all.ensures.schema refused))),
    )
