use Rattle.payload.proofs.Vocabulary.{◌∙◌}
use Rattle.payload.proofs.Places.{contains-derived}
use Rattle.payload.proofs.list.ListIndexPayloadIndex.contains.Goals as goal

pub returns : goal.returns
returns c = rw c.deref.ensures.value at c.contains.ensures ∙ contains-derived c.args.self.now c.self.inside.vrps.items c.args.vrp.now c.self.view_is
