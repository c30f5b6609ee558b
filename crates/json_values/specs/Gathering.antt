-- What a reader of several items has read so far.
use Rattle.std.specs.Prelude.{List, Result}
use Rattle.json_values.specs.Parts.{gathered}
use Rattle.json_values.specs.declared.lists.Gathered.{Gathered}

abbrev pub so_far : {T F : Type 0} → Gathered T F → Result (List T) F
so_far g = gathered g.fault g.values.items
