use Rattle.desk.proofs.HolderLemmas.{answers_by_entries}
use Rattle.desk.proofs.laws.answers_by_entries.Goals as goal

pub returns : goal.returns
returns c = answers_by_entries c.commands_by_entries.ensures c.imports_by_entries.ensures c.queries_by_entries.ensures c.hypothetical_by_entries.ensures
