-- The steps of the code, which no public contract cites.
pub mod Admission
pub mod Amendment
pub mod Authorized
pub mod Creation
pub mod Exchange
pub mod Part
pub mod Withdrawal
pub mod Import
pub mod HypotheticalChange
