pub mod NamedBlobs
pub mod Following
pub mod Planning
pub mod Promising
