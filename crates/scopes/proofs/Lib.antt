pub mod Taken
pub mod Written
pub mod Tallied
pub mod Samples
pub mod Kept
