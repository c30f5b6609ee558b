pub mod Giving
pub mod KeptDay
pub mod CsvLength
pub mod Days
pub mod Changes
pub mod States
pub mod steps
