pub mod FieldLemmas
pub mod ImportLemmas
pub mod LineLemmas
pub mod RecordSteps
pub mod RecordsLeft
pub mod Vocabulary
