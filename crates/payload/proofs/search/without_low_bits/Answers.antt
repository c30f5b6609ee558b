use Rattle.payload.proofs.Prefixes.{cleared, masked, not_below}
use Rattle.payload.proofs.search.without_low_bits.Goals as goal

pub returns-in-Some : goal.returns-in-Some
returns-in-Some c = masked _ _ _ _ c.from.ensures c.in-Some.ensures.0 c.in-Some.ensures.1

pub returns-in-None : goal.returns-in-None
returns-in-None c = cleared _ _ c.ranges.number.fits (not_below _ _ c.from.ensures c.in-None.ensures)
