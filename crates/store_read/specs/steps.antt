-- The steps of the code, which no public contract cites.
pub mod Queries
pub mod InForce
pub mod Below
