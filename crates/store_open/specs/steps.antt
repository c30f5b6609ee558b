-- The steps of the code, which no public contract cites.
pub mod Moving
pub mod Found
pub mod Numbered
pub mod Reading
pub mod Opened
pub mod Keys
pub mod Joining
