use Rattle.web.proofs.Vocabulary.{◌≡◌, ℕ, List, [], ◌++◌, length, within_limit, completed_lines, unfinished_line, AnswersEach}
use Rattle.web.proofs.script.run_lines.Given as goal

abbrev pub invariant-loop-count : goal.invariant-loop-count
invariant-loop-count g l = (input : List ℕ)
    × (g.S.Source.handed_out l.source ≡ g.S.Source.handed_out l.initial.source ++ input)
    × (l.buffer ≡ within_limit (unfinished_line [] input))
    × AnswersEach g.E.AnswerLines.answers l.initial.engine l.engine (completed_lines [] input)
    (g.D.Drain.written l.initial.drain) (g.D.Drain.written l.drain)
    × (length l.piece ≡ 4096)

abbrev pub decreases-loop-count : goal.decreases-loop-count
decreases-loop-count g l = g.S.Source.reads_left l.source
