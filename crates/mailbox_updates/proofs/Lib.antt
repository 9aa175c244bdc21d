pub mod Present
pub mod Chains
pub mod Showing
pub mod Breaking
pub mod Updating
pub mod Moving
pub mod Settled
