pub mod Switches
pub mod Writes
