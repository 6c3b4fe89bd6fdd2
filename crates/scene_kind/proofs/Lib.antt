pub mod Lawful
pub mod Mirrored
pub mod Claims
