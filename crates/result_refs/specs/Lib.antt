pub mod References
pub mod Causes
pub mod Parts
pub mod Room
pub mod Costs
