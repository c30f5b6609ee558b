use Rattle.registry.proofs.Unregistered.{has_nothing}
use Rattle.registry.proofs.laws.unregistered_have_nothing.Goals as goal

pub returns : goal.returns
returns c = has_nothing
