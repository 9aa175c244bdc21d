pub mod Checks
pub mod Chains
