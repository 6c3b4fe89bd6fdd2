pub mod Lawful
pub mod Mirrored
pub mod Claims
pub mod Largest
pub mod Bodies
