mod AuthsFound
mod Finding
pub mod Loading
pub mod InTurn
mod NumberFound
pub mod GivenAuths
mod HeldEntries
mod ClaimCount
mod Overlapping
mod Claimed
mod InForce
pub mod Giving
mod ExceptionsFound
pub mod HeldAlike
mod RunsApart
mod RunsBelow
pub mod Vocabulary
