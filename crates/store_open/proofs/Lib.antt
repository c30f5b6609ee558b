pub mod SameCharter
mod InTurn
mod Rowids
mod Collecting
mod Keys
mod AllTexts
mod Grouped
pub mod SomeAuths
mod Joining
mod EntriesByKey
mod SomeRows
mod Unread
mod Opened
mod OldRead
mod MovingDesk
mod OpenedDesk
pub mod Vocabulary
