use Rattle.std.proofs.Common.{◌≡◌, ◌≤◌, ◌++◌, length, vec_capacity, vec_len}
use Rattle.http_messages.proofs.body.read_body.Given as goal

abbrev pub invariant-loop-piece : goal.invariant-loop-piece
invariant-loop-piece g l =
    (g.S.Source.handed_out l.source ≡ g.S.Source.handed_out l.initial.source ++ l.body.items)
    × (l.length_of_body ≤ vec_capacity l.body)
    × (vec_len l.body ≤ l.length_of_body)
    × (length l.piece ≡ 4096)

abbrev pub decreases-loop-piece : goal.decreases-loop-piece
decreases-loop-piece g l = g.S.Source.reads_left l.source
