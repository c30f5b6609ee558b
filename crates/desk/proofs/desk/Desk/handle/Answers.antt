use Rattle.desk.proofs.Vocabulary.{refl, charter_of, may_change, may_except, asked_on, day_of}
use Rattle.registry.specs.declared.asked.Request.TheVariants.{Command as CommandRequest}
use Rattle.desk.proofs.CrashLemmas.{kept_crash, read_kept}
use Rattle.desk.proofs.DeskLemmas.{all_kept}
use Rattle.desk.proofs.FollowLemmas.{drops_by_query}
use Rattle.desk.proofs.desk.Desk.handle.Goals as goal

pub returns-in-Query-clause-left : goal.returns-in-Query-clause-left
returns-in-Query-clause-left g c clean history legal held =
    read_kept g.S.Store history (asked_on c.args.day c.args.caller.now c.args.request.now) c.answer.result c.args.self.now c.answer.new.self
    c.answer.ensures.never_done c.answer.ensures.read clean legal (rw c.in-Query.is (c.answer.ensures.answered clean history legal held, refl))
    (c.answer.ensures.held clean history legal held)

pub returns-in-Query-clause-answered : goal.returns-in-Query-clause-answered
returns-in-Query-clause-answered g c clean history legal held = (returns-in-Query-clause-left g c clean history legal held).answered

pub returns-in-Query-clause-crash : goal.returns-in-Query-clause-crash
returns-in-Query-clause-crash g c clean history legal held =
    kept_crash g.S.Store (charter_of c.args.self.now) history (asked_on c.args.day c.args.caller.now c.args.request.now) c.answer.result c.args.self.now c.answer.new.self
    (returns-in-Query-clause-left g c clean history legal held)

pub returns-in-Command-clause-left : goal.returns-in-Command-clause-left
returns-in-Command-clause-left g c clean history legal held = rw c.in-Command.is (c.carry_out.ensures.left clean history legal held)

pub returns-in-Command-clause-answered : goal.returns-in-Command-clause-answered
returns-in-Command-clause-answered g c clean history legal held = (returns-in-Command-clause-left g c clean history legal held).answered

pub returns-in-Command-clause-crash : goal.returns-in-Command-clause-crash
returns-in-Command-clause-crash g c clean history legal held =
    kept_crash g.S.Store (charter_of c.args.self.now) history (asked_on c.args.day c.args.caller.now c.args.request.now) c.carry_out.result c.args.self.now c.carry_out.new.self
    (returns-in-Command-clause-left g c clean history legal held)

pub returns-in-Command-clause-isolated : goal.returns-in-Command-clause-isolated
returns-in-Command-clause-isolated g c clean history legal held =
    let is = (c.carry_out.ensures.left clean history legal held).answered in
    rw c.in-Command.is (c.answers_by_entries.ensures (charter_of c.args.self.now) history c.args.day c.args.caller.now (CommandRequest c.in-Command.command) c.carry_out.result is.after legal is.answers)

pub returns-in-Command-clause-others : goal.returns-in-Command-clause-others
returns-in-Command-clause-others g c clean history legal held = rw c.in-Command.is (c.carry_out.ensures.others clean history legal held)

pub returns-in-Command-clause-read : goal.returns-in-Command-clause-read
returns-in-Command-clause-read g c = rw c.in-Command.is c.carry_out.ensures.read

pub returns-in-Query-clause-isolated : goal.returns-in-Query-clause-isolated
returns-in-Query-clause-isolated g c clean history legal held =
    c.answers_by_entries.ensures (charter_of c.args.self.now) history c.args.day c.args.caller.now c.args.request.now c.answer.result history legal
    (rw c.in-Query.is (c.answer.ensures.answered clean history legal held, refl))

pub returns-in-Query-clause-others : goal.returns-in-Query-clause-others
returns-in-Query-clause-others g c clean history legal held =
    all_kept g.S.Store (may_change c.args.request.now) (may_except c.args.request.now) c.args.self.now c.answer.new.self c.answer.ensures.read.rows clean

pub returns-in-Command-clause-kept_day : goal.returns-in-Command-clause-kept_day
returns-in-Command-clause-kept_day g c = rw c.in-Command.is c.carry_out.ensures.kept_day

pub returns-in-Query-clause-kept_day : goal.returns-in-Query-clause-kept_day
returns-in-Query-clause-kept_day g c = rw c.in-Query.is c.answer.ensures.kept_day

pub returns-in-Command-clause-dropped : goal.returns-in-Command-clause-dropped
returns-in-Command-clause-dropped g c clean history legal held = rw c.in-Command.is (c.carry_out.ensures.dropped clean history legal held)

pub returns-in-Query-clause-dropped : goal.returns-in-Query-clause-dropped
returns-in-Query-clause-dropped g c clean history legal held =
    let is = returns-in-Query-clause-answered g c clean history legal held in
    (is, drops_by_query c.args.request.now c.in-Query.query history is.after (day_of c.args.self.now.kept) (day_of c.answer.new.self.kept) c.in-Query.is)
