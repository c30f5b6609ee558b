use Rattle.store_transactions.proofs.Vocabulary.{◌≡◌, false, List, HasCleanDisk, IsUnchanged, Survives, state, bound, Row}
use Rattle.sqlite.specs.Given.{HasGiven}
use Rattle.store_transactions.proofs.query.take_rows.Given as goal

abbrev pub invariant-rows : goal.invariant-rows
invariant-rows g l =
    let old = state g.S.Store l.fn.conn in
    let now = state g.S.Store l.rows.conn.now in
    (l.rows.conn.ghost_name ≡ l.initial.rows.conn.ghost_name)
    × (l.fn.conn.in_transaction ≡ false → l.rows.conn.now.in_transaction ≡ false)
    × Survives old now (λ _. ⊥)
    × ((given : List Row) × g.T.TakeRow.took l.fn.taker given l.now × (HasCleanDisk now → HasGiven g.S.Store l.sql (bound l.values) l.rows.conn.now given × IsUnchanged old now))
