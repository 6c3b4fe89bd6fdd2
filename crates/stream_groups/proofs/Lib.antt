pub mod Writes
pub mod Taken
