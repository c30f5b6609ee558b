use Rattle.policy.proofs.RowsLemmas.{loss-answers, runs-answers}
use Rattle.policy.proofs.decision.decide_two.Goals as goal

pub returns-clause-answer : goal.returns-clause-answer
returns-clause-answer c = rw c.in-Transfer.is (λ history day legal giver taker.
    c.decide_transfer.ensures.answer history day legal (loss-answers history _ _ _ giver) (runs-answers history _ _ taker))
