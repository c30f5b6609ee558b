mod InTurn
mod PartSteps
pub mod StepLemmas
mod EditSteps
pub mod Numbers
mod AuthSteps
mod AmendSteps
mod ExceptionSteps
mod HolderSteps
mod RowSteps
pub mod Vocabulary
