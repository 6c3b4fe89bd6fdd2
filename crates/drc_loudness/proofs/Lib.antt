pub mod Walked
pub mod Found
pub mod Stored
pub mod Claims
