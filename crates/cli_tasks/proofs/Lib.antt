mod ConnectionLemmas
mod FollowLemmas
pub mod ServingLemmas
pub mod HistoryLemmas
pub mod ServedFileLemmas
pub mod LivesLemmas
pub mod Vocabulary
