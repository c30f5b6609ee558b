pub mod Fault
pub mod Databases
pub mod Statements
pub mod Queries
pub mod Files
pub mod Laws
pub mod steps
