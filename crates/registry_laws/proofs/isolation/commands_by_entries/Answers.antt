use Rattle.registry_laws.proofs.ByEntries.{commands_by_entries}
use Rattle.registry_laws.proofs.isolation.commands_by_entries.Goals as goal

pub returns : goal.returns
returns c = commands_by_entries
