use Rattle.store_open.proofs.Vocabulary.{◌≡◌, [], IsTrue, rules, ap, not, ◌∙◌, state, HasCleanDisk, KeepsCommit, IsNotRun, Survives, SELECT_SCHEMA, state_in, no_answer, not_run_after, undone_as_before}
use Rattle.store_open.proofs.InTurn.{earlier}
use Rattle.store_open.proofs.reading.read_others_once.Goals as goal

pub returns-in_err-prepare-clause-asked : goal.returns-in_err-prepare-clause-asked
returns-in_err-prepare-clause-asked g c =
    let old = state g.S.Store c.args.conn.now in
    let mid = state_in g.S.Store c.read_others.new.tx in
    let end = state g.S.Store c.rollback.new.self.0 in
    let new = state g.S.Store c.prepare.new.self in
    let settled : IsTrue old.is_open → old.now ≡ old.committed = c.is_autocommit-idle.ensures.settled (c.is_autocommit-idle.ensures.value ∙ ap not c.requires.idle) in
    let keeps : HasCleanDisk mid → KeepsCommit old mid =
    λ clean. let it = rw c.transaction-tx.ensures.begun at (c.read_others.ensures.asked.inside.kept clean) in record { was_open = it.was_open; committed = it.committed } in
    let last : Survives end new (λ _. ⊥) = search rules in
    let refused : HasCleanDisk new → IsNotRun end new SELECT_SCHEMA.now [] c.in_err-prepare.field-0.0 = search rules in
    record {
      idle = search rules;
      same = λ clean. no_answer _ c.from_residual-in_err-prepare.result c.from_residual-in_err-prepare.ensures.0;
      kept = λ clean.
          let late = earlier last clean in
          not_run_after old end new _ [] _ settled (undone_as_before old mid end settled (keeps (earlier c.rollback.ensures.survives late)) (c.rollback.ensures.undone late)) (refused clean);
      survives = search rules;
    }
