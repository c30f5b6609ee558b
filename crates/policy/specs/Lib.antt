pub mod PartAnswer
pub mod steps
