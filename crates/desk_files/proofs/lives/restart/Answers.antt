use Rattle.desk_files.proofs.Vocabulary.{arith, subst, IsClean}
use Rattle.desk_files.proofs.LifeLemmas.{crash_finds, crash_left, crash_resumes}
use Rattle.desk_files.proofs.RefusedLemmas.{refused_left}
use Rattle.desk_files.proofs.lives.restart.Goals as goal

pub returns-in-Ok-open_or_return-clause-resumed : goal.returns-in-Ok-open_or_return-clause-resumed
returns-in-Ok-open_or_return-clause-resumed g c clean =
    let opened = c.in-Ok-open_or_return.ensures.clean clean in
    let reopened : IsClean (g.S.Store.view c.crash_and_reopen.new.self) = omega (arith, c.in-Ok-over.ensures.clean, opened) in
    crash_resumes g.S.Store c.args.desk c.close.result c.into_store-store.result c.crash_and_reopen.new.self c.in-Ok-over.conn
    c.close.ensures.same c.into_store-store.ensures.quiet (c.in-Ok.ensures.found reopened) c.in-Ok.ensures.fresh.clean
    (c.in-Ok-over.ensures.trees opened) c.in-Ok-open_or_return.again (c.in-Ok-open_or_return.ensures.resumed clean)

pub returns-in-Err-open_or_return-clause-err : goal.returns-in-Err-open_or_return-clause-err
returns-in-Err-open_or_return-clause-err g c =
    let refused = c.in-Err-open_or_return in
    let quiet = c.into_store.ensures.quiet in
    let given : IsClean (g.S.Store.view c.into_store.result) → IsClean (g.S.Store.view refused.conn.store) = λ clean. omega (arith, quiet.clean, clean) in
    let opened : IsClean (g.S.Store.view c.into_store.result) → IsClean (g.S.Store.view c.in-Ok-over.conn.store) = λ clean. refused.ensures.err.clean (given clean) in
    let reopened : IsClean (g.S.Store.view c.into_store.result) → IsClean (g.S.Store.view c.crash_and_reopen.new.self) = λ clean. omega (arith, c.in-Ok-over.ensures.clean, opened clean) in
    record {
      clean = λ clean.
          let crashed : IsClean (g.S.Store.view c.close.result.store) =
          omega (arith, c.into_store-store.ensures.quiet.clean, c.crash_and_reopen.ensures.clean, reopened clean) in
          subst (λ h. IsClean (g.S.Store.view h.store)) c.close.ensures.same crashed;
      not_schema = λ clean is left.
          refused.ensures.not_schema (given clean) is
          (crash_finds g.S.Store c.args.desk c.close.result c.into_store-store.result c.crash_and_reopen.new.self c.in-Ok-over.conn
          c.close.ensures.same c.into_store-store.ensures.quiet (c.in-Ok.ensures.found (reopened clean)) c.in-Ok.ensures.fresh.clean
          (c.in-Ok-over.ensures.trees (opened clean)) (c.in-Ok-over.ensures.opens (opened clean)).0.is_open left);
      left = λ clean charter history pending left trees.
          refused_left g.S.Store c.in-Ok-over.conn refused.conn c.into_store.result
          (λ db. g.met.S.Store.settled c.in-Ok-over.conn.store db) (c.in-Ok-over.ensures.opens (opened clean)).0
          (refused.ensures.err.left (given clean)) quiet charter history pending
          (crash_left g.S.Store c.args.desk c.close.result c.into_store-store.result c.crash_and_reopen.new.self c.in-Ok-over.conn
          c.close.ensures.same c.into_store-store.ensures.quiet (c.in-Ok.ensures.found (reopened clean)) c.in-Ok.ensures.fresh.clean
          (c.in-Ok-over.ensures.trees (opened clean)) charter history pending left) trees;
    }
