use Rattle.std.proofs.lemmas.Result.{on_ok_weaker}
use Rattle.web.proofs.SessionLemmas.{broken_along, each_along, each_keeps, however_ended, later_broken, later_each, same_desk, unless_broken}
use Rattle.web.proofs.session.run_script.Goals as goal

pub returns-clause-ok : goal.returns-clause-ok
returns-clause-ok g c = on_ok_weaker c.run_lines.result
    (each_along g.A.Store c.args.desk.now c.run_lines.new.engine _ _ _) c.run_lines.ensures.ok

pub returns-clause-read : goal.returns-clause-read
returns-clause-read g c = λ is.
    each_along g.A.Store c.args.desk.now c.run_lines.new.engine _ _ _ (c.run_lines.ensures.read is)

pub returns-clause-write : goal.returns-clause-write
returns-clause-write g c = λ is.
    broken_along g.A.Store c.args.desk.now c.run_lines.new.engine _ _ _ (c.run_lines.ensures.write is)

pub returns-clause-kept : goal.returns-clause-kept
returns-clause-kept g c = λ unbroken silent. unless_broken c.run_lines.result
    (on_ok_weaker c.run_lines.result (each_keeps g.A.Store c.args.desk.now c.run_lines.new.engine _ _ _ silent) c.run_lines.ensures.ok)
    (λ is. each_keeps g.A.Store c.args.desk.now c.run_lines.new.engine _ _ _ silent (c.run_lines.ensures.read is))
    (λ is. λ clean rows holds. rw (c.run_lines.ensures.memory is).2 holds) unbroken

pub returns-clause-desk : goal.returns-clause-desk
returns-clause-desk g c = however_ended c.run_lines.result
    (on_ok_weaker c.run_lines.result (later_each g.A.Store c.args.desk.now c.run_lines.new.engine _ _ _) c.run_lines.ensures.ok)
    (λ is. later_each g.A.Store c.args.desk.now c.run_lines.new.engine _ _ _ (c.run_lines.ensures.read is))
    (λ is. later_broken g.A.Store c.args.desk.now c.run_lines.new.engine _ _ _ (c.run_lines.ensures.write is))
    (λ is. rw (c.run_lines.ensures.memory is).2 (same_desk g.A.Store c.args.desk.now))
