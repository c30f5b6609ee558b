pub mod OldTables
pub mod EitherSchema
pub mod Moved
pub mod Laws
pub mod Making
pub mod Moving
pub mod steps
