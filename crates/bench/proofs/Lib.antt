pub mod Decided
pub mod Claims
