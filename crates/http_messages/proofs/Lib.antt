pub mod HeadEndLemmas
pub mod LengthLemmas
pub mod ResponseLemmas
