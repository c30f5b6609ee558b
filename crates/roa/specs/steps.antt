-- What the reader's functions answer, which no public clause speaks of.
pub mod Reading
