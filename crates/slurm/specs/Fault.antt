-- The faults of a SLURM file by number. Where several apply, the lowest is reported.
use Rattle.std.specs.Prelude.{ℕ}
use Rattle.slurm.specs.declared.fault.SlurmFault.{SlurmFault}
use Rattle.slurm.specs.declared.fault.SlurmFault.TheVariants.{NotJson, NotObject, Members, Version, Bgpsec, Prefix, Asn, MaxPrefixLength, EmptyFilter, Comment, TooMany, Memory}

abbrev pub slurm_fault_number : SlurmFault → ℕ
slurm_fault_number NotJson = 1
slurm_fault_number NotObject = 2
slurm_fault_number Members = 3
slurm_fault_number Version = 4
slurm_fault_number Bgpsec = 5
slurm_fault_number Prefix = 6
slurm_fault_number Asn = 7
slurm_fault_number MaxPrefixLength = 8
slurm_fault_number EmptyFilter = 9
slurm_fault_number Comment = 10
slurm_fault_number TooMany = 11
slurm_fault_number Memory = 12
