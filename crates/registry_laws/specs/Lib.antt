pub mod SharedVrps
pub mod Ended
pub mod Ranges
pub mod Growth
pub mod OneOutcome
pub mod Isolation
pub mod RepeatedRequests
