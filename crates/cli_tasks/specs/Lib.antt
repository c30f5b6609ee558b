pub mod ConnectionTime
pub mod Connections
pub mod ServedFiles
pub mod ServedHistories
pub mod ServedLives
pub mod Serving
pub mod TaskFaults
