pub mod Lists
pub mod Fields
pub mod Handed
pub mod Tables
pub mod Reading
pub mod Writing
pub mod Layouts
