mod InTurn
mod StoreLemmas
mod HistoryRows
mod Gathering
mod HeldRead
mod OpenedStore
mod ReadRows
pub mod HeldOnce
mod PartFound
mod LossFound
pub mod Vocabulary
