pub mod Layout
pub mod Rows
pub mod Read
pub mod Kind
