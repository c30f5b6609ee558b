use Rattle.web.proofs.Vocabulary.{◌≡◌, [], ◌∙◌, ap, sym, refl, true, false, within_limit}
use Rattle.web.proofs.LineSplits.{unless_empty-lem, within_limit-nil}
use Rattle.payload.proofs.Visits.{on-err}
use Rattle.web.proofs.ScriptLemmas.{AnswersEach-nil, BreaksOff-one}
use Rattle.web.proofs.script.answer_last.Goals as goal

pub returns-then-is_empty-clause-ok : goal.returns-then-is_empty-clause-ok
returns-then-is_empty-clause-ok g c = λ unfinished holds.
    let is_nil : unfinished ≡ [] = within_limit-nil unfinished (sym holds ∙ c.if-is_empty.ensures.0 refl) in
    rw is_nil (AnswersEach-nil g.E.AnswerLines.answers c.args.engine.now (g.D.Drain.written c.args.drain.now))

pub returns-in_err-answer-clause-err : goal.returns-in_err-answer-clause-err
returns-in_err-answer-clause-err g c = λ unfinished holds.
    let (reply, acted, written) = c.in_err-answer.ensures.err in
    on-err c.from_residual.result _ (rw (unless_empty-lem unfinished (λ is_nil. let no : false ≡ true = c.if-is_empty.ensures.1 (holds ∙ ap within_limit is_nil) in cc))
    (BreaksOff-one g.E.AnswerLines.answers c.args.engine.now c.answer.new.self unfinished reply
    (g.D.Drain.written c.args.drain.now) (g.D.Drain.written c.answer.new.drain)
    (rw (c.line.ensures ∙ holds) at acted) written))
