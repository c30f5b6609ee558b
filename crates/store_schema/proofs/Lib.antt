mod Copying
pub mod Texts
pub mod Moved
pub mod Steps
pub mod EitherSchema
mod Creates
mod MakingSteps
mod MovingSteps
pub mod CharterSteps
pub mod Vocabulary
