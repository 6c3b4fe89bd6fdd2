pub mod Taken
pub mod Writes
pub mod Tallied
