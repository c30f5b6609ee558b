use Rattle.store.proofs.Vocabulary.{◌≡◌, rules, arith, subst, state, HasCleanDisk, MayCommit, CommitsChange, CommitsAtMost}
use Rattle.store.proofs.StoreLemmas.{commit_ok, commit_crash}
use Rattle.store.proofs.store.commit_change.Goals as goal

pub returns-in_err-commit-clause-crash : goal.returns-in_err-commit-clause-crash
returns-in_err-commit-clause-crash g c =
    let first = c.args.conn.now in
    let same : c.commit.new.self.0 ≡ c.conn-2-1.given.0 = search rules in
    subst (λ h. CommitsAtMost g.S.Store (MayCommit c.args.change.now) first h) same
    (commit_crash g.S.Store c.args.change.now first c.transaction-tx.result.conn.now c.make_change.new.tx.conn.now c.commit.new.self.0 c.transaction-tx.ensures.begun c.requires.tables c.schema-schema.ensures.live c.make_change.ensures.inside.survives c.commit.ensures.survives c.in_ok-make_change.ensures.done)

pub returns-clause-ok : goal.returns-clause-ok
returns-clause-ok g c clean =
    let first = c.args.conn.now in
    let end = c.commit.new.self.0 in
    let same : end ≡ c.conn-2-1.given.0 = search rules in
    let late : HasCleanDisk (state g.S.Store end) = search rules in
    let turned = c.in_ok-make_change.ensures.done (omega (arith, c.commit.ensures.survives.clean)) in
    subst (λ h. CommitsChange c.args.change.now (state g.S.Store first) (state g.S.Store h)) same
    (commit_ok g.S.Store c.args.change.now first c.transaction-tx.result.conn.now c.make_change.new.tx.conn.now end c.transaction-tx.ensures.begun c.schema-schema.ensures.live turned (c.in_ok-commit.ensures.ok late).1)

pub returns-clause-crash : goal.returns-clause-crash
returns-clause-crash g c =
    let first = c.args.conn.now in
    let same : c.commit.new.self.0 ≡ c.conn-2-1.given.0 = search rules in
    subst (λ h. CommitsAtMost g.S.Store (MayCommit c.args.change.now) first h) same
    (commit_crash g.S.Store c.args.change.now first c.transaction-tx.result.conn.now c.make_change.new.tx.conn.now c.commit.new.self.0 c.transaction-tx.ensures.begun c.requires.tables c.schema-schema.ensures.live c.make_change.ensures.inside.survives c.commit.ensures.survives c.in_ok-make_change.ensures.done)
