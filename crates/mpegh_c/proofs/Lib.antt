pub mod Hosted
pub mod Taken
pub mod Claims
