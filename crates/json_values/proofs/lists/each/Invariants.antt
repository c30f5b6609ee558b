use Rattle.std.proofs.Common.{◌≡◌, map, take}
use Rattle.serde_json.specs.View.{view}
use Rattle.json_values.specs.Gathering.{so_far}
use Rattle.json_values.specs.Parts.{each}
use Rattle.json_values.proofs.lists.each.Given as goal

abbrev pub invariant-loop-value : goal.invariant-loop-value
invariant-loop-value g l =
    so_far l.gathered ≡ each g.F.Fault.number g.T.FromJsonIn.reading (map view (take l.value-index l.values))
