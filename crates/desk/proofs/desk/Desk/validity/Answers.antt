use Rattle.desk.proofs.Vocabulary.{inl}
use Rattle.payload.specs.VrpSet as set
use Rattle.desk.proofs.DayLemmas.{moved_nowhere, moved_to}
use Rattle.desk.proofs.ExportLemmas.{states_on}
use Rattle.desk.proofs.LentLemmas.{lent_kept}
use Rattle.desk.proofs.desk.Desk.validity.Goals as goal

pub returns-in_ok-judge-in-Some-clause-answered : goal.returns-in_ok-judge-in-Some-clause-answered
returns-in_ok-judge-in-Some-clause-answered g c clean history legal held =
    states_on history c.args.day (set.items c.in-Some.index.now)
    (lent_kept g.S.Store c.args.self.now c.prepare.new.self c.args.day c.prepare.result c.in-Some.index.now c.prepare.ensures (rw c.in-Some.is at c.kept_vrps.ensures) clean history legal held).1
    c.args.routes.now c.in_ok-judge-in-Some.field-0.items c.in_ok-judge-in-Some.ensures

pub returns-in_ok-judge-in-Some-clause-moved : goal.returns-in_ok-judge-in-Some-clause-moved
returns-in_ok-judge-in-Some-clause-moved g c =
    inl (moved_to g.S.Store c.args.self.now c.prepare.new.self c.args.day c.prepare.result c.prepare.ensures c.in-Some.index.now (rw c.in-Some.is at c.kept_vrps.ensures))

pub returns-in_err-judge-in-Some-clause-moved : goal.returns-in_err-judge-in-Some-clause-moved
returns-in_err-judge-in-Some-clause-moved g c =
    inl (moved_to g.S.Store c.args.self.now c.prepare.new.self c.args.day c.prepare.result c.prepare.ensures c.in-Some.index.now (rw c.in-Some.is at c.kept_vrps.ensures))

pub returns-in-None-clause-moved : goal.returns-in-None-clause-moved
returns-in-None-clause-moved g c =
    moved_nowhere g.S.Store c.args.self.now c.prepare.new.self c.args.day c.prepare.result c.prepare.ensures (rw c.in-None.is at c.kept_vrps.ensures)
