-- The steps of the code, which no public contract cites.
pub mod Statements
pub mod Files
