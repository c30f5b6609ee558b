use Rattle.policy.proofs.Vocabulary.{◌≡◌, length, OfPart, rows_of}
use Rattle.policy.proofs.Hypothetical.{SoFar}
use Rattle.policy.proofs.what_if.suppose_on.Given as goal

abbrev pub invariant-loop-change : goal.invariant-loop-change
invariant-loop-change l =
    (l.place ≡ l.change-index)
    × OfPart l.changes (length l.changes) l.left_out (rows_of l.initial.rows) (λ charter history h keep whole.
    SoFar charter history h l.day l.caller l.changes l.change-index l.left_out keep whole (rows_of l.initial.rows) (rows_of l.rows))
