use Rattle.csv_records.proofs.ImportLemmas.{import-said, import-reported}
use Rattle.csv_records.proofs.imports.read_import.Goals as goal

pub returns-clause-rows : goal.returns-clause-rows
returns-clause-rows c = import-said c.args.text.now c.in_ok-read.read c.in_ok-read.ensures

pub returns-clause-fault : goal.returns-clause-fault
returns-clause-fault c = import-reported c.args.text.now c.in_ok-read.read c.in_ok-read.ensures
