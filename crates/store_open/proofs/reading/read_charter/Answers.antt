use Rattle.store_open.proofs.Vocabulary.{[], ◌∷◌, ⊤, subst, Database, pool, prefix_cells, state_in, AreRead, HasTree, shown_in}
use Rattle.store_open.proofs.InTurn.{earlier}
use Rattle.store_open.proofs.Unread.{charter_shown, some_charter}
use Rattle.store_open.proofs.reading.read_charter.Goals as goal

pub returns-clause-found : goal.returns-clause-found
returns-clause-found g c clean =
    let mid = earlier c.read_table-2.ensures.asked.inside.survives clean in
    let now = (c.in_ok-operators.ensures.asked.same mid).0.now_is in
    charter_shown (state_in g.S.Store c.args.tx.now).now c.in_ok-operators.operators.items c.in_ok-pool.pool.items (c.in_ok-operators.ensures.read mid)
    (subst (λ (d : Database). AreRead prefix_cells (λ _. ⊤) (shown_in pool.tree (0 ∷ 1 ∷ 2 ∷ []) d) c.in_ok-pool.pool.items) now (c.in_ok-pool.ensures.read clean))
    c.make_charter.result (c.in_ok-operators.ensures.tree mid) (subst (HasTree pool.tree) now (c.in_ok-pool.ensures.tree clean)) c.make_charter.ensures.operators c.make_charter.ensures.pool

pub returns-clause-schema : goal.returns-clause-schema
returns-clause-schema g c clean is read =
    let mid = earlier c.read_table-2.ensures.asked.inside.survives clean in
    let now = (c.in_ok-operators.ensures.asked.same mid).0.now_is in
    some_charter (state_in g.S.Store c.args.tx.now).now c.in_ok-operators.operators.items c.in_ok-pool.pool.items (c.in_ok-operators.ensures.read mid)
    (subst (λ (d : Database). AreRead prefix_cells (λ _. ⊤) (shown_in pool.tree (0 ∷ 1 ∷ 2 ∷ []) d) c.in_ok-pool.pool.items) now (c.in_ok-pool.ensures.read clean))
    read (rw is at c.make_charter.ensures.schema)
