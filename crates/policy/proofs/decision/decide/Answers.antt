use Rattle.policy.proofs.decision.decide.Goals as goal

pub returns-clause-answer : goal.returns-clause-answer
returns-clause-answer c history legal view =
    c.judge.ensures.answer history legal (c.answers_for.ensures c.args.charter.now history legal (rw c.as_ref-rows.ensures.value view.rows) view.taken)
