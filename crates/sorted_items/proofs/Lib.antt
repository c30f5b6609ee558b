mod Dedup
pub mod EachOnce
pub mod Places
