use Rattle.store_tables.proofs.Vocabulary.{◌≡◌, take}
use Rattle.std.proofs.Common.{All}
use Rattle.store_tables.proofs.same.ItemsSame.is_same.Given as goal

-- the items before this one are plain and the same
abbrev pub invariant-loop-i : goal.invariant-loop-i
invariant-loop-i g l = All g.T.Same.plain (take l.i l.items) × (take l.i l.items ≡ take l.i l.others)
