pub mod Groups
pub mod Writes
pub mod Tallied
