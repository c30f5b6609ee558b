use Rattle.web.proofs.Vocabulary.{◌≡◌, ℕ, List, ◌++◌, length, AnswersEach, pieces, within_limit, behind}
use Rattle.web.proofs.script.answer_completed.Given as goal

-- the lines before the rest were answered, and of the next one these bytes are kept
abbrev pub invariant-loop-line : goal.invariant-loop-line
invariant-loop-line g l = (unfinished : List ℕ) → l.initial.buffer ≡ within_limit unfinished
    → (lines : List (List ℕ)) × (kept : List ℕ)
    × (behind unfinished (pieces l.bytes) ≡ lines ++ behind kept (pieces l.rest))
    × (l.buffer ≡ within_limit kept)
    × AnswersEach g.E.AnswerLines.answers l.initial.engine l.engine lines
    (g.D.Drain.written l.initial.drain) (g.D.Drain.written l.drain)

abbrev pub decreases-loop-line : goal.decreases-loop-line
decreases-loop-line g l = length l.rest
