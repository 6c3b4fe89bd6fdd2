pub mod Contract
pub mod Walk
