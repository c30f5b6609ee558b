use Rattle.std.proofs.Common.{arith, rules, ◌++◌, ◌∙◌, take}
use Rattle.std.proofs.lemmas.Grind.{common_steps}
use Rattle.streams.proofs.StreamLemmas.{appends_more}
use Rattle.streams.proofs.printed.write_whole.Goals as goal

pub loop-rest-preserved : goal.loop-rest-preserved
loop-rest-preserved g c =
    let inv = c.loop-rest.invariant in
    let more = take c.in_ok-count.count c.loop-rest.rest.now in (
      inv.0 ++ more,
      appends_more _ _ _ inv.0 _ _ _ inv.1 c.in_ok-count.ensures.writes c.in_ok-count.ensures.bytes,
      inv.2 ∙ first_of (search rules, grind (arith, common_steps)),
      first_of (search rules, grind (arith, common_steps)),
    )
