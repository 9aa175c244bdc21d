pub mod Faults
pub mod Members
