pub mod Parts
pub mod Tree
pub mod Values
pub mod Faults
pub mod Gathering
