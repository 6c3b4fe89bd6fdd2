pub mod Lawful
pub mod Mirrored
pub mod Bodies
pub mod Claims
pub mod Parsed
pub mod Sighted
