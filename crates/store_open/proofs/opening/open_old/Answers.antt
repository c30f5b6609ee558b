use Rattle.store_open.proofs.Vocabulary.{rules, ◌≡◌, subst, state, IsClean, LeavesOldOrMoved, OpensDesk}
use Rattle.store_open.proofs.MovingDesk.{leaves_then, opens_then}
use Rattle.store_open.proofs.opening.open_old.Goals as goal

pub returns-in_err-commit-clause-crash : goal.returns-in_err-commit-clause-crash
returns-in_err-commit-clause-crash g c clean =
    let same : c.commit.new.self.0 ≡ c.conn-2-1.given.0 = search rules in
    let late : IsClean g.S.Store c.commit.new.self.0 = search rules in
    subst (λ h. LeavesOldOrMoved (state g.S.Store c.args.conn.now) (state g.S.Store h)) same
    (leaves_then g.S.Store c.args.has_index c.in_ok-charter.charter _ _ c.move_desk.new.tx.conn.now c.commit.new.self.0 c.transaction-tx.ensures.begun c.requires.schema c.commit.ensures.survives c.in_ok-charter.ensures.moved late c.move_desk.ensures.inside.survives)

pub returns-clause-opened : goal.returns-clause-opened
returns-clause-opened g c clean =
    let same : c.commit.new.self.0 ≡ c.conn-2-1.given.0 = search rules in
    let late : IsClean g.S.Store c.commit.new.self.0 = search rules in
    subst (λ h. OpensDesk c.in_ok-charter.charter (state g.S.Store c.args.conn.now) (state g.S.Store h)) same
    (opens_then g.S.Store c.args.has_index c.in_ok-charter.charter _ _ c.move_desk.new.tx.conn.now c.commit.new.self.0 c.transaction-tx.ensures.begun c.requires.schema c.commit.ensures.survives c.in_ok-charter.ensures.moved late c.requires.idle (c.in_ok-commit.ensures.ok late).1)

pub returns-clause-crash : goal.returns-clause-crash
returns-clause-crash g c clean =
    let same : c.commit.new.self.0 ≡ c.conn-2-1.given.0 = search rules in
    let late : IsClean g.S.Store c.commit.new.self.0 = search rules in
    subst (λ h. LeavesOldOrMoved (state g.S.Store c.args.conn.now) (state g.S.Store h)) same
    (leaves_then g.S.Store c.args.has_index c.in_ok-charter.charter _ _ c.move_desk.new.tx.conn.now c.commit.new.self.0 c.transaction-tx.ensures.begun c.requires.schema c.commit.ensures.survives c.in_ok-charter.ensures.moved late c.move_desk.ensures.inside.survives)
