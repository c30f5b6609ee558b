use Rattle.payload.proofs.Vocabulary.{ap, ◌∙◌, validation_state}
use Rattle.payload.proofs.Places.{listed}
use Rattle.payload.proofs.list.ListIndexPayloadIndex.validity.Goals as goal

pub returns : goal.returns
returns c =
    c.validity.ensures ∙ ap (λ vrps. validation_state vrps c.args.route.now) (listed c.args.self.now _ _ c.deref.ensures.value c.self.view_is c.self.invariant.0)
