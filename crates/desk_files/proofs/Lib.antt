pub mod DeskFileLemmas
pub mod LifeLemmas
pub mod RefusedFileLemmas
pub mod RefusedLemmas
pub mod Vocabulary
