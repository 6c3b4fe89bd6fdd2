pub mod Bodies
pub mod Parsed
pub mod Stored
pub mod Lawful
pub mod Mirrored
pub mod Claims
