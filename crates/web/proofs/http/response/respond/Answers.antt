use Rattle.web.proofs.Vocabulary.{refl, AppendsBeginning, AnswersNext}
use Rattle.web.proofs.HttpLemmas.{text-err}
use Rattle.web.proofs.http.response.respond.Goals as goal

pub returns-in-Refused-clause-err : goal.returns-in-Refused-clause-err
returns-in-Refused-clause-err g c =
    text-err c.write_refusal.result (λ text. AnswersNext g.A.Store c.args.desk.now c.args.next.now text c.args.desk.now)
    (AppendsBeginning (g.D.Drain.written c.args.drain.now) (g.D.Drain.written c.write_refusal.new.drain))
    _ (rw c.in-Refused.is (refl, refl)) c.write_refusal.ensures.err

pub returns-in-Malformed-clause-err : goal.returns-in-Malformed-clause-err
returns-in-Malformed-clause-err g c =
    text-err c.write_json.result (λ text. AnswersNext g.A.Store c.args.desk.now c.args.next.now text c.args.desk.now)
    (AppendsBeginning (g.D.Drain.written c.args.drain.now) (g.D.Drain.written c.write_json.new.drain))
    _ (rw c.in-Malformed.is (rw (c.as_str.ensures.value, c.text.ensures) (refl, refl))) c.write_json.ensures.err

pub returns-in-Asked-clause-ok : goal.returns-in-Asked-clause-ok
returns-in-Asked-clause-ok g c = rw c.in-Asked.is c.answer_to.ensures.ok

pub returns-in-Asked-clause-err : goal.returns-in-Asked-clause-err
returns-in-Asked-clause-err g c = rw c.in-Asked.is c.answer_to.ensures.err

pub returns-in-NotRead-clause-err : goal.returns-in-NotRead-clause-err
returns-in-NotRead-clause-err g c =
    text-err c.write_unavailable.result (λ text. AnswersNext g.A.Store c.args.desk.now c.args.next.now text c.args.desk.now)
    (AppendsBeginning (g.D.Drain.written c.args.drain.now) (g.D.Drain.written c.write_unavailable.new.drain))
    _ (rw c.in-NotRead.is (refl, refl)) c.write_unavailable.ensures.err
