use Rattle.policy.proofs.Vocabulary.{sym, subst, IsCreated}
use Rattle.policy.proofs.creation.create_in.Goals as goal

pub returns-clause-judged : goal.returns-clause-judged
returns-clause-judged c charter history h keep whole legal are part =
    let a = c.args in
    subst (IsCreated charter history h a.day a.caller.now a.terms.now) (sym c.in_ok-auth.ensures)
    (c.in_ok-number.ensures.judged charter history h legal (rw c.deref.ensures.value (c.answers_of-answers.ensures history h keep whole are.1 part)))
