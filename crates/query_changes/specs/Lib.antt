pub mod Touched
pub mod Deltas
pub mod Responses
pub mod Laws
pub mod Notes
