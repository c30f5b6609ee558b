use Rattle.requests.proofs.Vocabulary.{refl, length-map}
use Rattle.requests.proofs.action.Action.takes_body.Goals as goal

pub returns : goal.returns
returns c = rw (c.is_empty.ensures, ← c.form.ensures.body, length-map) refl
