pub mod Downmixes
