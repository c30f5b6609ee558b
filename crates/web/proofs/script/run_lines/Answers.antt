use Rattle.web.proofs.Vocabulary.{◌≡◌, ℕ, List, [], ◌++◌, ◌==◌, ◌&&◌, false, true, nat_lt, length, take, ◌∙◌, ap, ne_eqb, unless_empty, completed_lines, unfinished_line, appended_bytes-append, passes-more, passes-nothing}
use Rattle.web.proofs.LineSplits.{completed_lines-append, unfinished_line-append, whole_lines-lem, script_lines-lem}
use Rattle.web.proofs.ScriptLemmas.{AnswersEach-append, BreaksOff-after}
use Rattle.web.proofs.script.run_lines.Goals as goal

pub returns-in_default-read-clause-read : goal.returns-in_default-read-clause-read
returns-in_default-read-clause-read g c = λ _.
    let (input, handed_out, holds, answered, room) = c.loop-count.invariant in
    rw (appended_bytes-append _ input _ (c.in_default-read.ensures.err ∙ handed_out), whole_lines-lem input) answered

pub loop-count-preserved : goal.loop-count-preserved
loop-count-preserved g c =
    let (input, handed_out, holds, answered, room) = c.loop-count.invariant in
    let more : List ℕ = take c.in-Ok-read.count c.read.new.buffer in (
      input ++ more,
      passes-more (g.S.Source.handed_out c.args.source.now) input (g.S.Source.handed_out c.loop-count.source) more
          (g.S.Source.handed_out c.read.new.self) handed_out c.in-Ok-read.ensures.bytes,
      rw (unfinished_line-append [] input more) (c.in-Ok-answer_completed.ensures.rest _ holds),
      rw (completed_lines-append [] input more)
          (AnswersEach-append g.E.AnswerLines.answers c.args.engine.now c.loop-count.engine c.answer_completed.new.engine
          (completed_lines [] input) (completed_lines (unfinished_line [] input) more)
          (g.D.Drain.written c.args.drain.now) (g.D.Drain.written c.loop-count.drain) (g.D.Drain.written c.answer_completed.new.drain)
          answered (c.in-Ok-answer_completed.ensures.ok _ holds)),
      c.read.auto.buffer ∙ room,
    )

-- the source has not ended, since the read gave bytes
pub returns-in_default-answer_completed-clause-write : goal.returns-in_default-answer_completed-clause-write
returns-in_default-answer_completed-clause-write g c = λ _.
    let (input, handed_out, holds, answered, room) = c.loop-count.invariant in
    let more : List ℕ = take c.in-Ok-read.count c.read.new.buffer in
    let goes_on : g.S.Source.has_ended c.read.new.self ≡ false = c.in-Ok-read.ensures.end
    ∙ ap (λ b. b && nat_lt 0 (length c.read.new.buffer)) (ne_eqb c.in-Ok-read.count 0 c.if-count-eq0.false) in
    let handed_out_all = passes-more (g.S.Source.handed_out c.args.source.now) input
    (g.S.Source.handed_out c.loop-count.source) more
    (g.S.Source.handed_out c.read.new.self) handed_out c.in-Ok-read.ensures.bytes in
    rw (
      goes_on,
      appended_bytes-append _ (input ++ more) _ handed_out_all,
      whole_lines-lem (input ++ more),
      completed_lines-append [] input more,
    )
    (BreaksOff-after g.E.AnswerLines.answers c.args.engine.now c.loop-count.engine c.answer_completed.new.engine
    (completed_lines [] input) (completed_lines (unfinished_line [] input) more)
    (g.D.Drain.written c.args.drain.now) (g.D.Drain.written c.loop-count.drain) (g.D.Drain.written c.answer_completed.new.drain)
    answered (c.in_default-answer_completed.ensures.err _ holds))

-- the source has ended, since the read had room and gave nothing
pub returns-in_default-answer_last-clause-write : goal.returns-in_default-answer_last-clause-write
returns-in_default-answer_last-clause-write g c = λ _.
    let (input, handed_out, holds, answered, room) = c.loop-count.invariant in
    let ended : g.S.Source.has_ended c.read.new.self ≡ true = c.in-Ok-read.ensures.end
    ∙ ap (λ n. n == 0 && nat_lt 0 (length c.read.new.buffer)) c.if-count-eq0.true
    ∙ ap (λ n. nat_lt 0 n) (c.read.auto.buffer ∙ room) in
    let handed_out_all = passes-nothing (g.S.Source.handed_out c.args.source.now) input (g.S.Source.handed_out c.loop-count.source)
    c.read.new.buffer c.in-Ok-read.count (g.S.Source.handed_out c.read.new.self)
    handed_out c.if-count-eq0.true c.in-Ok-read.ensures.bytes in
    rw (ended, appended_bytes-append _ input _ handed_out_all, script_lines-lem input)
    (BreaksOff-after g.E.AnswerLines.answers c.args.engine.now c.loop-count.engine c.answer_last.new.engine
    (completed_lines [] input) (unless_empty (unfinished_line [] input))
    (g.D.Drain.written c.args.drain.now) (g.D.Drain.written c.loop-count.drain) (g.D.Drain.written c.answer_last.new.drain)
    answered (c.in_default-answer_last.ensures.err _ holds))

pub returns-clause-ok : goal.returns-clause-ok
returns-clause-ok g c =
    let (input, handed_out, holds, answered, room) = c.loop-count.invariant in
    let handed_out_all = passes-nothing (g.S.Source.handed_out c.args.source.now) input (g.S.Source.handed_out c.loop-count.source)
    c.read.new.buffer c.in-Ok-read.count (g.S.Source.handed_out c.read.new.self)
    handed_out c.if-count-eq0.true c.in-Ok-read.ensures.bytes in
    rw (appended_bytes-append _ input _ handed_out_all, script_lines-lem input)
    (AnswersEach-append g.E.AnswerLines.answers c.args.engine.now c.loop-count.engine c.answer_last.new.engine
    (completed_lines [] input) (unless_empty (unfinished_line [] input))
    (g.D.Drain.written c.args.drain.now) (g.D.Drain.written c.loop-count.drain) (g.D.Drain.written c.answer_last.new.drain)
    answered (c.in-Ok-answer_last.ensures.ok _ holds))
