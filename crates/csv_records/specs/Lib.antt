pub mod Fields
pub mod CsvRecords
pub mod Imports
pub mod Lines
pub mod steps
