use Rattle.store_transactions.proofs.Vocabulary.{List, ap, ◌∙◌, not, arith, state, HasCleanDisk, bound, Row, survives_then}
use Rattle.store_transactions.proofs.QueryLemmas.{as_before, no_answer, not_run}
use Rattle.store_transactions.proofs.Taking.{plain_after, taken_kept, taken_rows, taken_same}
use Rattle.store_transactions.proofs.query.take_each.Goals as goal

pub returns-in_err-prepare-clause-asked : goal.returns-in_err-prepare-clause-asked
returns-in_err-prepare-clause-asked g c =
    let old = state g.S.Store c.args.conn.now in
    let new = state g.S.Store c.prepare.new.self in
    record {
      idle = c.prepare.ensures.mode c.requires.ready.idle;
      same = λ clean. no_answer _ c.from_residual.result c.from_residual.ensures.0;
      kept = λ clean.
          as_before old new (c.is_autocommit-idle.ensures.settled (c.is_autocommit-idle.ensures.value ∙ ap not c.requires.ready.idle))
          (not_run c.args.sql.now (bound c.args.values.now) old new _ (c.in_err-prepare.ensures.err clean (bound c.args.values.now)));
      survives = c.prepare.ensures.survives;
    }

pub take_rows-requires-clause-plain : goal.take_rows-requires-clause-plain
take_rows-requires-clause-plain g c clean =
    let old = state g.S.Store c.args.conn.now in
    let mid = state g.S.Store c.prepare.new.self in
    let first : HasCleanDisk old = omega (arith, c.prepare.ensures.survives.clean) in
    plain_after c.args.sql.now old mid (c.requires.ready.tables first) c.requires.plain (c.in_ok-prepare.ensures.ok clean).1

pub returns-clause-taken : goal.returns-clause-taken
returns-clause-taken g c clean =
    let old = state g.S.Store c.args.conn.now in
    let mid = state g.S.Store c.prepare.new.self in
    let new = state g.S.Store c.take_rows.new.conn in
    let compiled : HasCleanDisk mid = omega (arith, c.take_rows.ensures.survives.clean) in
    let first : HasCleanDisk old = omega (arith, c.prepare.ensures.survives.clean) in
    taken_rows (λ now rows. g.T.TakeRow.took c.args.taker rows now) c.take_rows.result c.args.sql.now (bound c.args.values.now) old mid new (c.requires.ready.tables first) c.requires.plain
    (c.in_ok-prepare.ensures.ok compiled).1 (c.take_rows.ensures.taken clean) c.requires.unlisted

pub returns-clause-asked : goal.returns-clause-asked
returns-clause-asked g c =
    let old = state g.S.Store c.args.conn.now in
    let mid = state g.S.Store c.prepare.new.self in
    let new = state g.S.Store c.take_rows.new.conn in
    let took = λ (now : g.row.T.Denot) (rows : List Row). g.T.TakeRow.took c.args.taker rows now in
    let before : HasCleanDisk new → HasCleanDisk mid = λ clean. omega (arith, clean, c.take_rows.ensures.survives.clean) in
    let first : HasCleanDisk new → HasCleanDisk old = λ clean. omega (arith, clean, c.take_rows.ensures.survives.clean, c.prepare.ensures.survives.clean) in
    record {
      idle = c.take_rows.ensures.mode (c.prepare.ensures.mode c.requires.ready.idle);
      same = λ clean.
          taken_same took c.take_rows.result c.args.sql.now (bound c.args.values.now) old mid new (c.requires.ready.tables (first clean)) c.requires.plain
          (c.in_ok-prepare.ensures.ok (before clean)).1 (c.take_rows.ensures.taken clean);
      kept = λ clean.
          taken_kept took c.take_rows.result c.args.sql.now (bound c.args.values.now) old mid new (c.requires.ready.tables (first clean)) c.requires.plain
          (c.in_ok-prepare.ensures.ok (before clean)).1 (c.take_rows.ensures.taken clean) (c.take_rows.ensures.kept clean)
          (c.is_autocommit-idle.ensures.settled (c.is_autocommit-idle.ensures.value ∙ ap not c.requires.ready.idle));
      survives = survives_then old mid new (λ _. ⊥) (λ _. ⊥) (λ _. ⊥) (λ _ db none. none) (λ _ db none. none) c.prepare.ensures.survives c.take_rows.ensures.survives;
    }
