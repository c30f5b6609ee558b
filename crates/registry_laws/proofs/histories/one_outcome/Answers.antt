use Rattle.registry_laws.proofs.OneOutcome.{one_outcome}
use Rattle.registry_laws.proofs.histories.one_outcome.Goals as goal

pub returns : goal.returns
returns c = one_outcome
