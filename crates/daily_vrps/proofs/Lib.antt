pub mod Members
pub mod CsvLengths
pub mod VrpSets
pub mod ExceptionLemmas
pub mod Steps
pub mod Keeps
pub mod Follows
pub mod VrpsOfDay
pub mod DayLemmas
pub mod RouteStates
pub mod Edits
pub mod Turns
pub mod States
mod GivenVrps
pub mod Exchanges
pub mod Vocabulary
