pub mod Loads
pub mod steps
