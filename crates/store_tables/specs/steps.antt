-- The steps of the proofs, which no public contract cites.
pub mod Edits
pub mod Groups
pub mod Ungrouping
