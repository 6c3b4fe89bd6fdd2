pub mod Starred
pub mod Library
