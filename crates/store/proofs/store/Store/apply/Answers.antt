use Rattle.store.proofs.Vocabulary.{◌≡◌, subst, OnOk, state, changed_rows, GivenOnce, EachHeldRows, HoldsAfter, MayLeave, LeavesOnly, LeavesPlaced, connection_state}
use Rattle.store.proofs.StoreLemmas.{over, holds_ok, may_leave, leaves_only, leaves_placed, once_before, schema_kept}
use Rattle.store.proofs.store.Store.apply.Goals as goal

pub returns-clause-ok : goal.returns-clause-ok
returns-clause-ok g c clean =
    let new = c.commit_change.new.conn in
    subst (λ store. OnOk c.commit_change.result (HoldsAfter g.S.Store store (over c.self.inside.charter new) (changed_rows c.args.change.now))) c.self.view_is
    (holds_ok g.S.Store c.commit_change.result c.args.change.now c.self.inside.charter c.self.inside.conn new clean c.commit_change.ensures.crash (c.commit_change.ensures.ok clean))

pub returns-clause-crash : goal.returns-clause-crash
returns-clause-crash g c clean =
    let new = c.commit_change.new.conn in
    subst (λ store. MayLeave g.S.Store store (over c.self.inside.charter new) (changed_rows c.args.change.now)) c.self.view_is
    (may_leave g.S.Store c.commit_change.result c.args.change.now c.self.inside.charter c.self.inside.conn new clean c.commit_change.ensures.crash)

pub returns-clause-left : goal.returns-clause-left
returns-clause-left g c clean =
    let new = c.commit_change.new.conn in
    subst (λ store. OnOk c.commit_change.result (LeavesOnly g.S.Store store (over c.self.inside.charter new) (changed_rows c.args.change.now))) c.self.view_is
    (leaves_only g.S.Store c.commit_change.result c.args.change.now c.self.inside.charter c.self.inside.conn new clean c.commit_change.ensures.crash (λ trees. g.met.S.Store.settled new.store trees) (c.commit_change.ensures.ok clean))

pub returns-clause-positions : goal.returns-clause-positions
returns-clause-positions g c clean =
    let change = c.args.change.now in
    let new = c.commit_change.new.conn in
    subst (λ store. OnOk c.commit_change.result (EachHeldRows g.S.Store store (λ _. LeavesPlaced g.S.Store change store (over c.self.inside.charter new)))) c.self.view_is
    (leaves_placed g.S.Store c.commit_change.result change c.self.inside.charter c.self.inside.conn new clean c.commit_change.ensures.crash (λ trees. g.met.S.Store.settled new.store trees) (c.commit_change.ensures.ok clean))

pub returns-clause-once : goal.returns-clause-once
returns-clause-once g c clean =
    subst (λ store. OnOk c.commit_change.result (EachHeldRows g.S.Store store GivenOnce)) c.self.view_is
    (once_before g.S.Store c.commit_change.result c.args.change.now c.self.inside.charter c.self.inside.conn c.commit_change.new.conn clean c.commit_change.ensures.crash
    c.entries_differ.ensures c.claims_differ.ensures c.schema-schema.ensures.live c.self.invariant.1 (c.commit_change.ensures.ok clean))

pub returns-clause-beside : goal.returns-clause-beside
returns-clause-beside g c clean opened =
    let new = state g.S.Store c.commit_change.new.conn in
    subst (λ store. new.now.schema ≡ (connection_state g.S.Store store).now.schema) c.self.view_is
    (schema_kept c.commit_change.result c.args.change.now (state g.S.Store c.self.inside.conn) new (c.commit_change.ensures.ok clean) (c.commit_change.ensures.err clean opened))
