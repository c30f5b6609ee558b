use Rattle.web.proofs.Vocabulary.{◌≡◌, [], ◌∷◌, ◌++◌, refl, ap, ◌∙◌, all_but_last, last_piece, pieces, behind, completed_lines, unfinished_line}
use Rattle.payload.proofs.Visits.{on-err}
use Rattle.web.proofs.LineSplits.{all_but_last-append, all_but_last-one, last_of-one, behind-cut, behind-rest}
use Rattle.web.proofs.ScriptLemmas.{AnswersEach-append, AnswersEach-nil, AnswersEach-one, BreaksOff-after, BreaksOff-before, BreaksOff-one}
use Rattle.web.proofs.script.answer_completed.Goals as goal

pub loop-line-init : goal.loop-line-init
loop-line-init g c = λ unfinished holds.
    ([], unfinished, refl, holds, AnswersEach-nil g.E.AnswerLines.answers c.args.engine.now (g.D.Drain.written c.args.drain.now))

pub loop-line-preserved : goal.loop-line-preserved
loop-line-preserved g c = λ unfinished holds.
    let (lines, kept, all, holds_kept, answered) = c.loop-line.invariant unfinished holds in
    let (reply, acted, written) = c.in_ok-answer.ensures.ok in
    let line = kept ++ c.in-Some.line.now in (
      lines ++ line ∷ [],
      [],
      behind-cut unfinished c.args.bytes.now lines kept c.loop-line.rest.now c.in-Some.line.now c.in-Some.more.now
          all c.in-Some.ensures.found,
      c.clear.ensures,
      AnswersEach-append g.E.AnswerLines.answers c.args.engine.now c.loop-line.engine c.answer.new.self lines (line ∷ [])
          (g.D.Drain.written c.args.drain.now) (g.D.Drain.written c.loop-line.drain) (g.D.Drain.written c.answer.new.drain)
          answered (AnswersEach-one g.E.AnswerLines.answers c.loop-line.engine c.answer.new.self line reply
          (g.D.Drain.written c.loop-line.drain) (g.D.Drain.written c.answer.new.drain)
          (rw (c.line.ensures ∙ c.append.ensures kept holds_kept) at acted) written),
    )

pub returns-in_err-answer-clause-err : goal.returns-in_err-answer-clause-err
returns-in_err-answer-clause-err g c = λ unfinished holds.
    let (lines, kept, all, holds_kept, answered) = c.loop-line.invariant unfinished holds in
    let (reply, acted, written) = c.in_err-answer.ensures.err in
    let line = kept ++ c.in-Some.line.now in
    let more = pieces c.in-Some.more.now in
    let completed : completed_lines unfinished c.args.bytes.now ≡ (lines ++ line ∷ []) ++ all_but_last (behind [] more) =
    ap all_but_last (behind-cut unfinished c.args.bytes.now lines kept c.loop-line.rest.now c.in-Some.line.now
    c.in-Some.more.now all c.in-Some.ensures.found)
    ∙ all_but_last-append (lines ++ line ∷ []) [] more in
    on-err c.from_residual.result _ (rw completed
    (BreaksOff-before g.E.AnswerLines.answers c.args.engine.now c.answer.new.self
    (lines ++ line ∷ []) (all_but_last (behind [] more))
    (g.D.Drain.written c.args.drain.now) (g.D.Drain.written c.answer.new.drain)
    (BreaksOff-after g.E.AnswerLines.answers c.args.engine.now c.loop-line.engine c.answer.new.self lines (line ∷ [])
    (g.D.Drain.written c.args.drain.now) (g.D.Drain.written c.loop-line.drain) (g.D.Drain.written c.answer.new.drain)
    answered (BreaksOff-one g.E.AnswerLines.answers c.loop-line.engine c.answer.new.self line reply
    (g.D.Drain.written c.loop-line.drain) (g.D.Drain.written c.answer.new.drain)
    (rw (c.line.ensures ∙ c.append.ensures kept holds_kept) at acted) written))))

pub returns-clause-rest : goal.returns-clause-rest
returns-clause-rest g c = λ unfinished holds.
    let (lines, kept, all, holds_kept, answered) = c.loop-line.invariant unfinished holds in
    let rest = c.loop-line.rest.now in
    let is : unfinished_line unfinished c.args.bytes.now ≡ kept ++ rest =
    ap last_piece (behind-rest unfinished c.args.bytes.now lines kept rest all c.in_default.ensures.none)
    ∙ last_of-one lines (kept ++ rest) in
    rw is (c.append-2.ensures kept holds_kept)

pub returns-clause-ok : goal.returns-clause-ok
returns-clause-ok g c = λ unfinished holds.
    let (lines, kept, all, holds_kept, answered) = c.loop-line.invariant unfinished holds in
    let rest = c.loop-line.rest.now in
    let is : completed_lines unfinished c.args.bytes.now ≡ lines =
    ap all_but_last (behind-rest unfinished c.args.bytes.now lines kept rest all c.in_default.ensures.none)
    ∙ all_but_last-one lines (kept ++ rest) in
    rw is answered
