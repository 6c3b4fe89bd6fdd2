pub mod Taken
pub mod Tallied
