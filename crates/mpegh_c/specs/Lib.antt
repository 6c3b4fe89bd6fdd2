pub mod Code
pub mod Host
