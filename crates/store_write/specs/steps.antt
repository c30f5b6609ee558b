-- The steps of the code, which no public contract cites.
pub mod RowEdits
pub mod Statements
