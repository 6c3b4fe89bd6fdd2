pub mod Kinds
pub mod Line
pub mod Text
