-- What serves writing: actions, the two passes over them, a byte of fields as one number, and parts behind a flag.
pub mod Acts
pub mod Passes
pub mod Spelling
pub mod Plain
pub mod Parts
