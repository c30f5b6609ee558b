pub mod Fault
pub mod Filter
pub mod Exceptions
pub mod Overlap
pub mod SlurmSets
pub mod SlurmFaults
pub mod SlurmEntries
pub mod steps
