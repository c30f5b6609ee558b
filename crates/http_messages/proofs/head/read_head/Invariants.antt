use Rattle.std.proofs.Common.{◌≡◌, ◌++◌, length}
use Rattle.http_messages.specs.HeadEnd.{LacksEnd}
use Rattle.http_messages.proofs.head.read_head.Given as goal

abbrev pub invariant-loop-head : goal.invariant-loop-head
invariant-loop-head g l = (g.S.Source.handed_out l.source ≡ g.S.Source.handed_out l.initial.source ++ l.head.items)
    × LacksEnd l.head.items
    × (length l.piece ≡ 4)

abbrev pub decreases-loop-head : goal.decreases-loop-head
decreases-loop-head g l = g.S.Source.reads_left l.source
