-- What serves reading: programs and their runs, where code stands in one, and loops over rows.
pub mod Runs
pub mod Blind
pub mod Takes
pub mod Steps
pub mod Walk
pub mod Loops
pub mod Nest
