pub mod Taken
pub mod Tallied
pub mod Writes
