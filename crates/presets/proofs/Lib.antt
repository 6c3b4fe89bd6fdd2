pub mod Taken
pub mod Writes
