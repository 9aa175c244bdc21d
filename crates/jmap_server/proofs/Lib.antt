pub mod Told
pub mod Unmoved
pub mod Openings
pub mod Served
pub mod Workers
mod Sharing
pub mod Keepers
pub mod Runs
