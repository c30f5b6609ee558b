use Rattle.store_transactions.proofs.Vocabulary.{arith, HasCleanDisk, bound, state_in, IsReady}
use Rattle.store_transactions.proofs.QueryLemmas.{inside_unchanged, inside_ready, inside_kept}
use Rattle.store_transactions.proofs.query.ask_inside.Goals as goal

pub returns-clause-asked : goal.returns-clause-asked
returns-clause-asked g c =
    let old = state_in g.S.Store c.args.tx.now in
    let new = state_in g.S.Store c.query_all.new.self in
    let sql = c.args.sql.now in
    let params = bound c.args.values.now in
    let ready : HasCleanDisk new → IsReady old = λ clean. c.requires.ready (omega (arith, clean, c.query_all.ensures.survives.clean)) in
    record {
      inside = record {
        same_reference = c.query_all.ensures.same_reference;
        kept = λ clean.
            inside_kept (λ rows. rows.items) c.query_all.result sql params old new (ready clean) c.requires.plain (c.query_all.ensures.ok clean) (c.query_all.ensures.err clean);
        survives = c.query_all.ensures.survives;
      };
      same = λ clean. inside_unchanged (λ rows. rows.items) c.query_all.result sql params old new (ready clean) c.requires.plain (c.query_all.ensures.ok clean);
      ready = λ clean. inside_ready (λ rows. rows.items) c.query_all.result sql params old new (ready clean) c.requires.plain (c.query_all.ensures.ok clean);
    }
