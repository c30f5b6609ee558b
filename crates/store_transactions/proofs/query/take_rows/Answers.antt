use Rattle.store_transactions.proofs.Vocabulary.{List, rules, arith, state, HasCleanDisk, Shown, bound, Row}
use Rattle.store_transactions.proofs.Taking.{always_on_err, commits_nothing, fact_on_err, refused_err, shown_from_start}
use Rattle.store_transactions.proofs.query.take_rows.Goals as goal

pub returns-in_err-rows-clause-kept : goal.returns-in_err-rows-clause-kept
returns-in_err-rows-clause-kept g c clean =
    let old = state g.S.Store c.args.conn.now in
    let new = state g.S.Store c.query.follows.lender-at-none in
    let held = fact_on_err _ c.query.result _ c.in_err-rows.was c.query.follows.holds-at-none in
    always_on_err c.from_residual.result (refused_err c.query.result c.args.sql.now (bound c.args.values.now) old new (held.err clean) _ c.in_err-rows.was)

pub returns-in_err-rows-clause-survives : goal.returns-in_err-rows-clause-survives
returns-in_err-rows-clause-survives g c =
    let old = state g.S.Store c.args.conn.now in
    let new = state g.S.Store c.query.follows.lender-at-none in
    let held = fact_on_err _ c.query.result _ c.in_err-rows.was c.query.follows.holds-at-none in
    commits_nothing c.args.sql.now (bound c.args.values.now) old new c.requires.plain held.survives

pub returns-in_default-clause-taken : goal.returns-in_default-clause-taken
returns-in_default-clause-taken g c clean =
    let moved = c.next.follows.holds-at-none in
    let now = c.next.follows.lender-at-none.conn.now in
    let params = bound c.args.values.now in
    let old = state g.S.Store c.args.conn.now in
    let mid = state g.S.Store c.rows.rows.conn.now in
    let late : HasCleanDisk (state g.S.Store now) = search rules in
    let early : HasCleanDisk mid = omega (arith, moved.survives.clean) in
    let first : HasCleanDisk old = omega (arith, early, c.rows.invariant.2.clean) in
    let was = c.rows.invariant.3 in
    let stood = was.2 early in
    let shown = (rw (c.in_ok-row.was, c.in_default.is) at (moved.ok late)) c.args.sql.now params was.0 stood.0 in
    let whole = shown_from_start c.args.sql.now params old mid (state g.S.Store now) was.0 (c.requires.plain first) stood.1 shown in
    let found : (rows : List Row) × Shown c.args.sql.now params old (state g.S.Store now) rows × g.T.TakeRow.took c.args.taker rows c.rows.now = (was.0, whole, was.1) in
    search rules
