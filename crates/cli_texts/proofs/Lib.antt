pub mod StateSteps
pub mod CheckLemmas
pub mod RowLemmas
pub mod CharterSteps
pub mod WordsSteps
pub mod LineSteps
pub mod Vocabulary
