use Rattle.payload.proofs.Vocabulary.{◌∙◌}
use Rattle.payload.proofs.Lengths.{no_shorter-removed}
use Rattle.payload.proofs.Places.{contains-derived, removed-defined, rise-defined}
use Rattle.payload.proofs.Sets.{members-remove}
use Rattle.payload.proofs.list.ListIndexPayloadIndex.remove.Goals as goal

pub invariant_of-self : goal.invariant_of-self
invariant_of-self c = (
  rise-defined _ c.remove.ensures.rise,
  no_shorter-removed _ _ _ c.args.vrp.now c.self.invariant.1 (removed-defined _ _ c.args.vrp.now c.remove.ensures.members),
)

pub returns-clause-found : goal.returns-clause-found
returns-clause-found c = c.remove.ensures.found ∙ contains-derived c.args.self.now c.self.inside.vrps.items c.args.vrp.now c.self.view_is

pub returns-clause-rest : goal.returns-clause-rest
returns-clause-rest c =
    members-remove c.args.self.now c.self.inside.vrps.items c.remove.new.items.items c.args.vrp.now c.self.view_is (removed-defined _ _ c.args.vrp.now c.remove.ensures.members)
