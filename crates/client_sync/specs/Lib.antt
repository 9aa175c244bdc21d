pub mod Faults
pub mod Syncing
