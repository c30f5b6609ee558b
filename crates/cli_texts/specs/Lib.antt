pub mod Check
pub mod CsvRows
pub mod ProgramFaults
pub mod Words
pub mod WordsFault
pub mod CharterFile
pub mod steps
