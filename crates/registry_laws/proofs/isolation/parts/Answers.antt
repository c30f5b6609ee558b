use Rattle.registry_laws.proofs.ByEntries.{vrps_of_entries}
use Rattle.registry_laws.proofs.isolation.parts.Goals as goal

pub returns : goal.returns
returns c = vrps_of_entries
