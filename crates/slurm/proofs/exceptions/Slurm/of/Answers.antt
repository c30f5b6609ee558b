use Rattle.slurm.proofs.Vocabulary.{view}
use Rattle.slurm.proofs.SlurmEntryLemmas.{answer-said}
use Rattle.slurm.proofs.SlurmFaultLemmas.{slurm_fault-none, slurm_fault-reported, tree_is_json}
use Rattle.slurm.proofs.exceptions.Slurm.of.Goals as goal

pub returns-clause-entries : goal.returns-clause-entries
returns-clause-entries c = answer-said (view c.args.value.now) c.read_file.result c.read_file.ensures.file

pub returns-clause-faultless : goal.returns-clause-faultless
returns-clause-faultless c = slurm_fault-none (view c.args.value.now) c.read_file.result c.read_file.ensures.file

pub returns-clause-fault : goal.returns-clause-fault
returns-clause-fault c = rw (← slurm_fault-reported (view c.args.value.now)) c.read_file.ensures.fault

pub returns-clause-is_json : goal.returns-clause-is_json
returns-clause-is_json c =
    tree_is_json (view c.args.value.now) c.read_file.result (rw (← slurm_fault-reported (view c.args.value.now)) c.read_file.ensures.fault)
