-- The steps of the code, which no public contract cites.
pub mod Commits
pub mod PartNumbers
