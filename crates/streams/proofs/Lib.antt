pub mod StreamLemmas
mod TrailMade
pub mod Vocabulary
