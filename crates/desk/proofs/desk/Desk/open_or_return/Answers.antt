use Rattle.desk.proofs.Vocabulary.{None}
use Rattle.sqlite.specs.Held.{state}
use Rattle.desk.proofs.ResumedLemmas.{left_is_ours, opened_none_pending, resumes}
use Rattle.desk.proofs.desk.Desk.open_or_return.Goals as goal

pub returns-in-Ok-clause-history : goal.returns-in-Ok-clause-history
returns-in-Ok-clause-history g c = λ clean charter history rows is legal has held.
    let same = (c.in-Ok.ensures.opened clean).same charter rows is held in
    record { chartered = same.0; legal = legal; rows = (rows, has, same.1, λ _ _. tt) }

pub returns-in-Ok-clause-none_pending : goal.returns-in-Ok-clause-none_pending
returns-in-Ok-clause-none_pending g c clean =
    opened_none_pending g.S.Store (state g.S.Store c.args.conn) (record { store = c.in-Ok.store; kept = None }) (c.in-Ok.ensures.opened clean)

pub returns-in-Ok-clause-resumed : goal.returns-in-Ok-clause-resumed
returns-in-Ok-clause-resumed g c clean =
    resumes g.S.Store c.growth_is_legal.ensures (state g.S.Store c.args.conn) (record { store = c.in-Ok.store; kept = None })
    (returns-in-Ok-clause-history g c clean) (returns-in-Ok-clause-none_pending g c clean)

pub returns-in-Err-clause-not_schema : goal.returns-in-Err-clause-not_schema
returns-in-Err-clause-not_schema g c clean is found =
    left_is_ours c.desk_trees_have_tables.ensures c.tables_that_read_are_ours.ensures.now c.tables_of_a_history_read.ensures
    c.old_desk_trees_have_schema.ensures c.tables_that_read_are_ours.ensures.old c.old_tables_of_a_history_read.ensures c.growth_is_legal.ensures
    (state g.S.Store c.args.conn) c.schema-schema.ensures.live found (c.in-Err.ensures.err.schema clean is)
