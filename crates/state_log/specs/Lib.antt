pub mod Positions
pub mod Logs
