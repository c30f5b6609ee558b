use Rattle.cli_tasks.proofs.Vocabulary.{ServesInTurn}
use Rattle.cli_tasks.proofs.HistoryLemmas.{each_leaves}
use Rattle.cli_tasks.proofs.ServingLemmas.{later_served}
use Rattle.cli_tasks.proofs.serve.serve_on.Goals as goal

pub returns-clause-served : goal.returns-clause-served
returns-clause-served g c =
    let (passed, all, few, accepted, in_turn, logged) = c.answer_each.ensures.served in
    let served : ServesInTurn g.S.Store c.args.day c.args.desk.now passed c.answer_each.new.engine =
    (c.make_ready.new.self, c.make_ready.ensures, in_turn) in
    (passed, all, few, accepted, served, each_leaves g.S.Store c.args.day passed _ _ served, logged)

pub returns-clause-later : goal.returns-clause-later
returns-clause-later g c =
    let (passed, all, few, accepted, in_turn, logged) = c.answer_each.ensures.served in
    later_served g.S.Store c.args.day c.args.desk.now _ passed (c.make_ready.new.self, c.make_ready.ensures, in_turn)
