-- What the reader's steps answer and what an index keeps of filters: no public clause speaks of it.
pub mod SlurmFile
pub mod Reach
pub mod Overlap
pub mod Walk
