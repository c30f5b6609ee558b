-- Steps of the code, which no public contract cites.
pub mod Accepting
pub mod EditsGiven
pub mod Following
pub mod LookedUp
pub mod WhatIf
