pub mod DeskFiles
pub mod Faults
pub mod Lives
pub mod Refused
