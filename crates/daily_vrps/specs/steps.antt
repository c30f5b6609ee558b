-- Steps of the code, which no public contract cites.
pub mod Counting
pub mod Entries
pub mod Exchanging
pub mod Gathering
