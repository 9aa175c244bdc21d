pub mod Texts
pub mod Knowing
pub mod Naming
pub mod Parts
pub mod Sets
pub mod Rejecting
pub mod Identifiers
pub mod Planning
