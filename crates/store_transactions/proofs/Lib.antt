pub mod StatementLemmas
pub mod PutLemmas
pub mod QueryLemmas
mod Taking
pub mod Asking
pub mod Ascending
pub mod Obeyed
pub mod KeyedRows
pub mod NamedFiles
pub mod HeldRows
mod FilesIn
mod ShownFiles
pub mod Vocabulary
