use Rattle.store_open.proofs.Vocabulary.{subst, IfOk-weaker, state, LeavesOldOrMoved, OpensDesk}
use Rattle.store_open.specs.steps.Found.{HasFound}
use Rattle.store_open.proofs.MovingDesk.{if_both}
use Rattle.store_open.proofs.OpenedDesk.{leaves_unlimited, opens_desk, opens_unlimited}
use Rattle.store_open.proofs.opening.open_tables.Goals as goal

pub returns-in-Desk-clause-opened : goal.returns-in-Desk-clause-opened
returns-in-Desk-clause-opened g c clean =
    let found = state g.S.Store c.find_in.new.conn in
    let end = state g.S.Store c.read_tables.new.conn in
    let same = c.read_tables.ensures.asked.same clean in
    if_both c.read_tables.result (c.read_tables.ensures.held clean) same same
    (λ charter held same _.
    let opened : OpensDesk charter found end = opens_desk found end charter c.in_ok-find_in.ensures.idle (subst (HasFound c.find_in.new.conn.schema) c.in-Desk.is c.in_ok-find_in.ensures.found)
    (c.in_ok-find_in.ensures.settled same.0.was_open) same held in
    opens_unlimited (state g.S.Store c.args.conn.now) end c.find_in.new.conn.step_limit charter (subst (λ h. OpensDesk charter (state g.S.Store h) end) c.find_in.ensures.same opened))

pub returns-in-Old-clause-opened : goal.returns-in-Old-clause-opened
returns-in-Old-clause-opened g c clean =
    let end = state g.S.Store c.open_old.new.conn in
    IfOk-weaker c.open_old.result _ _
    (λ charter opened. opens_unlimited (state g.S.Store c.args.conn.now) end c.find_in.new.conn.step_limit charter (subst (λ h. OpensDesk charter (state g.S.Store h) end) c.find_in.ensures.same opened))
    (c.open_old.ensures.opened clean)

pub returns-in-Old-clause-crash : goal.returns-in-Old-clause-crash
returns-in-Old-clause-crash g c clean =
    let end = state g.S.Store c.open_old.new.conn in
    leaves_unlimited (state g.S.Store c.args.conn.now) end c.find_in.new.conn.step_limit (subst (λ h. LeavesOldOrMoved (state g.S.Store h) end) c.find_in.ensures.same (c.open_old.ensures.crash clean))
