pub mod Bodies
pub mod Sections
pub mod Walked
pub mod Found
pub mod Stored
pub mod Tallied
pub mod Bare
pub mod Claims
