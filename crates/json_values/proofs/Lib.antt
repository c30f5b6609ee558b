pub mod PartsLemmas
pub mod TreeLemmas
pub mod FaultLemmas
pub mod ReadingLemmas
