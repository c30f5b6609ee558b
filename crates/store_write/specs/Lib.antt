pub mod Changes
pub mod steps
