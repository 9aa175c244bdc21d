pub mod Messages
pub mod Planned
