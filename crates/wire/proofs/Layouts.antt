-- What serves layouts: formats, rows as syntax tables, their tables, and code over them.
pub mod Codec
pub mod Cells
pub mod Forms
pub mod Rowed
pub mod Borne
pub mod Running
pub mod Most
pub mod Fronts
pub mod Straight
pub mod Heeds
pub mod Families
pub mod Bearers
