use Rattle.store_transactions.proofs.Vocabulary.{ap, ◌∙◌, not, arith, state, HasCleanDisk, bound}
use Rattle.store_transactions.proofs.QueryLemmas.{not_run, no_answer, as_before, answer_shown, answer_unchanged, answer_kept, answer_survives}
use Rattle.store_transactions.proofs.query.ask.Goals as goal

pub returns-in_err-query-clause-asked : goal.returns-in_err-query-clause-asked
returns-in_err-query-clause-asked g c =
    let old = state g.S.Store c.args.conn.now in
    let new = state g.S.Store c.prepare.new.self in
    record {
      idle = c.prepare.ensures.mode c.requires.ready.idle;
      same = λ clean. no_answer _ c.from_residual.result c.from_residual.ensures.0;
      kept = λ clean.
          as_before old new (c.is_autocommit-idle.ensures.settled (c.is_autocommit-idle.ensures.value ∙ ap not c.requires.ready.idle))
          (not_run c.args.sql.now (bound c.args.values.now) old new _ (c.in_err-query.ensures.err clean (bound c.args.values.now)));
      survives = c.prepare.ensures.survives;
    }

pub returns-clause-shown : goal.returns-clause-shown
returns-clause-shown g c clean =
    let old = state g.S.Store c.args.conn.now in
    let mid = state g.S.Store c.prepare.new.self in
    let compiled : HasCleanDisk mid = omega (arith, c.query_all.ensures.survives.clean) in
    let first : HasCleanDisk old = omega (arith, c.prepare.ensures.survives.clean) in
    answer_shown (λ rows. rows.items) c.query_all.result c.args.sql.now _ (bound c.args.values.now) old mid (state g.S.Store c.query_all.new.conn)
    (c.requires.ready.tables first) c.requires.plain (c.in_ok-query.ensures.ok compiled) (c.query_all.ensures.ok clean)

pub returns-clause-asked : goal.returns-clause-asked
returns-clause-asked g c =
    let old = state g.S.Store c.args.conn.now in
    let mid = state g.S.Store c.prepare.new.self in
    let new = state g.S.Store c.query_all.new.conn in
    let sql = c.args.sql.now in
    let params = bound c.args.values.now in
    let before : HasCleanDisk new → HasCleanDisk mid = λ clean. omega (arith, clean, c.query_all.ensures.survives.clean) in
    let first : HasCleanDisk new → HasCleanDisk old = λ clean. omega (arith, clean, c.query_all.ensures.survives.clean, c.prepare.ensures.survives.clean) in
    record {
      idle = c.query_all.ensures.mode (c.prepare.ensures.mode c.requires.ready.idle);
      same = λ clean.
          answer_unchanged (λ rows. rows.items) c.query_all.result sql _ params old mid new (c.requires.ready.tables (first clean)) c.requires.plain
          (c.in_ok-query.ensures.ok (before clean)) (c.query_all.ensures.ok clean);
      kept = λ clean.
          answer_kept (λ rows. rows.items) c.query_all.result sql _ params old mid new (c.requires.ready.tables (first clean)) c.requires.plain
          (c.in_ok-query.ensures.ok (before clean)) (c.query_all.ensures.ok clean) (c.query_all.ensures.err clean)
          (c.is_autocommit-idle.ensures.settled (c.is_autocommit-idle.ensures.value ∙ ap not c.requires.ready.idle));
      survives =
          answer_survives sql _ params old mid new c.requires.ready.tables c.requires.plain c.in_ok-query.ensures.ok c.prepare.ensures.survives
          c.query_all.ensures.survives;
    }
